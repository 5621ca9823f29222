use Rattle.std.proofs.Common.{◌≡◌, ◌-◌, [], take}
use Rattle.forms.specs.Reads.{numbers_in}
use Rattle.forms.specs.Rows.{added}
use Rattle.forms.proofs.reader.Reader.numbers_into.Given as goal

abbrev pub invariant-loop-price : goal.invariant-loop-price
invariant-loop-price l =
    (l.self.text.now ≡ l.initial.self.text.now)
    × (numbers_in added l.field.allowed l.initial.self.text.now (l.field.count - l.price-index) l.price-index (take l.price-index l.out) l.self.at
    ≡ numbers_in added l.field.allowed l.initial.self.text.now l.field.count 0 [] l.initial.self.at)
