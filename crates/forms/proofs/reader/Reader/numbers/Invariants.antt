use Rattle.std.proofs.Common.{◌≡◌, ◌-◌}
use Rattle.forms.specs.Reads.{numbers_in}
use Rattle.forms.proofs.reader.Reader.numbers.Given as goal

abbrev pub invariant-loop-index : goal.invariant-loop-index
invariant-loop-index g l =
    (l.self.text.now ≡ l.initial.self.text.now)
    × (numbers_in (g.K.Kind.filled l.inner) l.field.allowed l.initial.self.text.now (l.field.count - l.index) l.index l.filled l.self.at
    ≡ numbers_in (g.K.Kind.filled l.inner) l.field.allowed l.initial.self.text.now l.field.count 0 l.initial.filled l.initial.self.at)
