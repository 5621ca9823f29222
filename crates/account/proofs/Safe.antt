-- What holds after any string of calls, put together.
use Rattle.std.proofs.Common.{◌≡◌, ◌≤◌, Ok, Result, refl, ap, subst}
use Rattle.terms.specs.declared.refusal.Refusal.{Refusal}
use Rattle.margin.specs.LeastCover.{LeastCover}
use Rattle.margin.proofs.Cover.{margin_is_the_least_cover}
use Rattle.account.specs.Account.{State, Answer, Required, Requirement, last_of, book_of, requirement, step, run}
use Rattle.account.specs.Runs.{Answers, SafelyMargined, AnswersSafely, SafeAfterAnyCalls}
use Rattle.account.proofs.Kept.{Kept, run_keeps, run_lowers, begin_keeps}

-- margin has one answer
one_answer : (s : State) (answer : Requirement) → Answers s answer → requirement s ≡ answer
unfolding step
one_answer s answer e = let told : ◌≡◌ {A = Result Answer Refusal} (Ok (Required (requirement s))) (Ok (Required answer)) = ap (λ (r : State × Result Answer Refusal). r.1) e in inside (requirement s) answer told
  where
    inside : (a b : Requirement) → ◌≡◌ {A = Result Answer Refusal} (Ok (Required a)) (Ok (Required b)) → a ≡ b
    inside a b e = cc

pub kept_is_safe : (s : State) → Kept s → SafelyMargined s (requirement s)
kept_is_safe s kept = record {
  the_amount_covers_every_world = least.covers;
  no_lower_amount_does = least.least_that_covers;
  its_world_is_a_world = least.handed_out_is_a_world;
  no_world_loses_more = least.no_world_loses_more;
  the_collateral_suffices = kept.covers;
  fills_and_cancels_never_raise_it = λ calls only later told. subst (λ (r : Requirement). r.amount ≤ (requirement s).amount) (one_answer (run s calls) later told) (run_lowers s kept calls only);
}
  where
    least : LeastCover (last_of s) s.bank.price s.cards (book_of s)
    least = margin_is_the_least_cover (last_of s) s.bank.price s.cards (book_of s)

answers_safely : (s : State) → Kept s → AnswersSafely s
unfolding step
answers_safely s kept = (requirement s, refl, kept_is_safe s kept)

pub safe_after_any_calls : SafeAfterAnyCalls
safe_after_any_calls bank cards held collateral begun e calls = answers_safely (run begun calls) (run_keeps begun (begin_keeps bank cards held collateral begun e) calls)
