use Rattle.std.proofs.Common.{◌≡◌, ◌-◌, [], length, take, drop}
use Rattle.forms.specs.Reads.{list_on}
use Rattle.forms.proofs.reader.Reader.list.Given as goal

abbrev pub invariant-loop-count : goal.invariant-loop-count
invariant-loop-count g l =
    (l.self.text.now ≡ l.initial.self.text.now)
    × (drop l.count l.out ≡ drop l.count l.initial.out)
    × (list_on g.K.Kind.head_of g.K.Kind.fields_of g.K.Kind.empty g.K.Kind.filled l.initial.self.text.now (length l.initial.out - l.count) (take l.count l.out) l.self.at
    ≡ list_on g.K.Kind.head_of g.K.Kind.fields_of g.K.Kind.empty g.K.Kind.filled l.initial.self.text.now (length l.initial.out) [] l.initial.self.at)
