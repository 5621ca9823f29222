use Rattle.std.proofs.Common.{◌≡◌, drop}
use Rattle.forms.specs.Fields.{all_asked}
use Rattle.forms.specs.Reads.{inners_in}
use Rattle.forms.proofs.reader.Reader.all_inner.Given as goal

abbrev pub invariant-loop-inner : goal.invariant-loop-inner
invariant-loop-inner g l =
    (l.self.text.now ≡ l.initial.self.text.now)
    × (inners_in g.K.Kind.filled l.initial.self.text.now (all_asked (drop l.inner l.field-items)) l.inner l.filled l.self.at
    ≡ inners_in g.K.Kind.filled l.initial.self.text.now g.K.Kind.fields_of 0 g.K.Kind.empty l.initial.self.at)
