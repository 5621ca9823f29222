-- What the walk accepts is a writing of forms, and where it stops is the first byte that cannot continue.
use Rattle.std.proofs.Common.{◌≡◌, ℕ, ◌+◌, List, take, Some, sym, ap, ◌∙◌, subst, add-one, arith}
use Rattle.text.specs.declared.shape.State.TheVariants.{Line}
use Rattle.text.specs.Shape.{malformed_at}
use Rattle.text.specs.Grammar.{WellFormed, FirstFault, AcceptsWritings, RefusesFirst}
use Rattle.text.proofs.After.{after, after_more, after_none, finish, none_some, none_after, after_stops_none, Stop, some_stop}
use Rattle.text.proofs.Printed.{after_text}
use Rattle.text.proofs.Parsed.{after_well_formed}

well_formed_after : (bs : List ℕ) → WellFormed bs → after Line bs ≡ Some Line
well_formed_after bs w = ap (after Line) w.2 ∙ after_text w.0 w.1

pub accepts_writings : AcceptsWritings
unfolding malformed_at
accepts_writings bs = (λ w. after_stops_none Line 0 bs (well_formed_after bs w), λ e. after_well_formed bs (none_after Line 0 bs e))

first_fault : (bs : List ℕ) (k : ℕ) → Stop Line bs k → FirstFault bs k
first_fault bs k s =
    let on = finish s.state in
    record {
      within = s.within;
      before = (on.0, after_well_formed _ (after_more Line s.state (take k bs) on.0 s.passed ∙ on.1));
      byte = λ h rest w. none_some Line (sym (after_none Line (take (k + 1) bs) rest (rw add-one (s.byte h))) ∙ well_formed_after _ w);
      end = λ h w. s.end h (well_formed_after bs w);
    }

pub refuses_first : RefusesFirst
unfolding malformed_at
refuses_first bs place e =
    let s = some_stop Line 0 place bs e in
    let same : s.0 ≡ place = omega (arith, s.1) in
    subst (FirstFault bs) same (first_fault bs s.0 s.2)
