-- What the forms of a session file say, read in their order: the day, or the first form or number that may not stand where it stands.
use Rattle.std.specs.Prelude.{◌≡◌, ℕ, ◌-◌, ◌*◌, List, [], ◌++◌, length, drop, ℤ, Ok, Err, Result, nat_le, nat_lt}
use Rattle.terms.specs.declared.refusal.Refusal.{Refusal}
use Rattle.terms.specs.declared.refusal.Refusal.TheVariants.{WrongForm}
use Rattle.terms.specs.declared.cards.Basket.{Basket}
use Rattle.terms.specs.declared.cards.Family.{Family}
use Rattle.terms.specs.declared.cards.Held.{Held}
use Rattle.terms.specs.declared.cards.Line.{Line}
use Rattle.terms.specs.declared.cards.Month.{Month}
use Rattle.terms.specs.declared.half.Half.{Half}
use Rattle.forms.specs.Fields.{Asked}
use Rattle.forms.specs.Reads.{Told, then, given, form_in, list_on}
use Rattle.forms.specs.Rows.{rows_in}
use Rattle.kinds.specs.Formats.{Format, grid_format, family_format, basket_format, month_format, future_format, option_format, cash_format, held_format, order_format}
use Rattle.kinds.specs.declared.Order.{Order}
use Rattle.forms.specs.declared.reader.Reader.{Reader}
use Rattle.load.specs.declared.lists.Lengths.{Lengths}
use Rattle.load.specs.declared.lists.Lists.{Lists}
use Rattle.load.specs.Days.{Day, Contents, contents_of, lengths_of}

-- the forms of a kind that follow one another, at least one: a missing one is refused where it should stand
unfoldable pub some_in : {R : Type 0} → List ℕ → List Asked → R → (ℕ → R → ℕ → ℤ → R) → List ℕ → ℕ → ℕ → Told (List R)
some_in head fields empty fill text room at = then (list_on head fields empty fill text room [] at) (λ rs p. given (nat_lt 0 (length rs)) (WrongForm p) (Ok (rs, p)))

module _ {R : Type 0} (format : Format R) (text : List ℕ) where
  abbrev pub form_at : ℕ → Told R
  form_at at = form_in format.head format.fields format.empty format.fill text at

  -- none or more, as many as there is room for
  abbrev pub any_at : ℕ → ℕ → Told (List R)
  any_at room at = list_on format.head format.fields format.empty format.fill text room [] at

  abbrev pub some_at : ℕ → ℕ → Told (List R)
  some_at room at = some_in format.head format.fields format.empty format.fill text room at

-- families, baskets and months
unfoldable pub cards_in : Lengths → List ℕ → ℕ → Told (List Family × List Basket × List Month)
cards_in room text at =
    then (some_at family_format text room.families at) (λ families p.
    then (some_at basket_format text room.baskets p) (λ baskets q.
    then (some_at month_format text room.months q) (λ months u.
    Ok ((families, baskets, months), u))))

-- futures, then options, which share one list
unfoldable pub lines_in : Lengths → List ℕ → ℕ → Told (List Line × List Line)
lines_in room text at =
    then (some_at future_format text room.lines at) (λ futures p.
    then (any_at option_format text (room.lines - length futures) p) (λ options q.
    Ok ((futures, options), q)))

-- the lines, then seven rows of prices for each option
unfoldable pub contracts_in : Half → Lengths → List ℕ → ℕ → Told (List Line × List Line × List ℤ)
contracts_in half room text at =
    then (lines_in room text at) (λ lines p.
    then (rows_in (length lines.0) half text room.prices (7 * length lines.1) 0 [] p) (λ prices q.
    Ok ((lines.0, lines.1, prices), q)))

-- nothing is left: a form that is left over is refused at its bracket
unfoldable pub end_in : List ℕ → ℕ → Told (Unit {0})
end_in text at = given (nat_le (length text) at) (WrongForm at) (Ok (tt, at))

-- held records and orders, which end the file
unfoldable pub book_in : Lengths → List ℕ → ℕ → Told (List Held × List Order)
book_in room text at =
    then (any_at held_format text room.held at) (λ held p.
    then (any_at order_format text room.orders p) (λ orders q.
    then (end_in text q) (λ _ u.
    Ok ((held, orders), u))))

unfoldable pub day_in : Lengths → List ℕ → Told Day
day_in room text =
    then (form_at grid_format text 0) (λ half p.
    then (cards_in room text p) (λ cards q.
    then (contracts_in half room text q) (λ contracts u.
    then (form_at cash_format text u) (λ cash v.
    then (book_in room text v) (λ book w.
    Ok (
      record {
        half = half;
        families = cards.0;
        baskets = cards.1;
        months = cards.2;
        futures = contracts.0;
        options = contracts.1;
        prices = contracts.2;
        cash = cash;
        held = book.0;
        orders = book.1;
      },
      w,
    ))))))

-- ---- what the lists hold then

-- a list with records written over its first ones
abbrev pub over : {R : Type 0} → List R → List R → List R
over records before = records ++ drop (length records) before

abbrev pub with_cards : List Family × List Basket × List Month → Contents → Contents
with_cards x c = record { families = over x.0 c.families; baskets = over x.1 c.baskets; months = over x.2 c.months; lines = c.lines; prices = c.prices; held = c.held; orders = c.orders }

abbrev pub with_lines : List Line × List Line → Contents → Contents
with_lines x c = record { families = c.families; baskets = c.baskets; months = c.months; lines = over (x.0 ++ x.1) c.lines; prices = c.prices; held = c.held; orders = c.orders }

abbrev pub with_contracts : List Line × List Line × List ℤ → Contents → Contents
with_contracts x c = record { families = c.families; baskets = c.baskets; months = c.months; lines = over (x.0 ++ x.1) c.lines; prices = over x.2 c.prices; held = c.held; orders = c.orders }

abbrev pub with_book : List Held × List Order → Contents → Contents
with_book x c = record { families = c.families; baskets = c.baskets; months = c.months; lines = c.lines; prices = c.prices; held = over x.0 c.held; orders = over x.1 c.orders }

abbrev pub with_day : Day → Contents → Contents
with_day day c =
    record {
      families = over day.families c.families;
      baskets = over day.baskets c.baskets;
      months = over day.months c.months;
      lines = over (day.futures ++ day.options) c.lines;
      prices = over day.prices c.prices;
      held = over day.held c.held;
      orders = over day.orders c.orders;
    }

-- something read: how much it is was answered, the reader stands behind it, and the lists hold it
abbrev pub Read : {X N : Type 0} → (X → N) → (X → Contents → Contents) → Told X → Result N Refusal → ℕ → Contents → Contents → Type 0
Read counts with (Ok x) r at before after = (r ≡ Ok (counts x.0)) × (at ≡ x.1) × (after ≡ with x.0 before)
Read counts with (Err e) r at before after = r ≡ Err e

-- the same of a step that reads a part of the file: the reader goes on in the same text, and the lists keep their lengths
pub record ReadsInto {X N : Type 0} (counts : X → N) (with : X → Contents → Contents) (part : Lengths → List ℕ → ℕ → Told X) (before after : Reader) (lists filled : Lists) (result : Result N Refusal) : Type 0 where
  pub answer : Read counts with (part (lengths_of (contents_of lists)) before.text.now before.at) result after.at (contents_of lists) (contents_of filled)
  pub long : lengths_of (contents_of filled) ≡ lengths_of (contents_of lists)
  pub same : after.text.now ≡ before.text.now
