-- The state of an account, put together from what a program keeps.
use Rattle.std.specs.Prelude.{ℕ, List}
use Rattle.banks.specs.Meanings.{Meaning}
use Rattle.margin.specs.declared.book.Position.{Position}
use Rattle.margin.specs.Book.{Cards}
use Rattle.account.specs.declared.orders.Order.{Order}
use Rattle.account.specs.Account.{State}

abbrev pub state_with : Meaning → Cards → List Position → List Order → List ℕ → ℕ → ℕ → State
state_with bank cards positions orders accepted next collateral = record { bank = bank; cards = cards; positions = positions; orders = orders; accepted = accepted; next = next; collateral = collateral }
