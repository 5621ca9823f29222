use Rattle.std.proofs.Common.{◌≡◌, ◌-◌, ◌≤◌, [], length, take, drop}
use Rattle.forms.specs.Rows.{rows_in}
use Rattle.forms.proofs.reader.Reader.rows.Given as goal

abbrev pub invariant-loop-index : goal.invariant-loop-index
invariant-loop-index l =
    (l.self.text.now ≡ l.initial.self.text.now)
    × (l.end ≤ length l.out)
    × (drop l.end l.out ≡ drop l.end l.initial.out)
    × (rows_in l.first l.half l.initial.self.text.now (length l.initial.out) (l.count - l.index) l.index (take l.end l.out) l.self.at
    ≡ rows_in l.first l.half l.initial.self.text.now (length l.initial.out) l.count 0 [] l.initial.self.at)
