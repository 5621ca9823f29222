use Rattle.std.proofs.Common.{List, ◌++◌, map, get_or, take, pos, vec_items, Result, sym, refl, ap, ◌∙◌, arith}
use Rattle.std.proofs.lemmas.List.{append-nil, take_all}
use Rattle.terms.specs.declared.refusal.Refusal.{Refusal}
use Rattle.account.specs.declared.call.Call.{Call}
use Rattle.account.specs.declared.call.Call.TheVariants.{Place}
use Rattle.account.specs.Account as account
use Rattle.account.specs.Account.{State, step, run, answers}
use Rattle.calls.specs.Accounts.{state_of}
use Rattle.calls.specs.Answers.{told_of}
use Rattle.calls.proofs.RunSteps.{run_more, answers_more, told_more}
use Rattle.calls.proofs.running.take_all.Goals as goal

-- what is read where there is no call
abbrev first_call : Call
first_call = Place (pos 0) (pos 0) (pos 0)

pub loop-call-init : goal.loop-call-init
unfolding run answers
loop-call-init g c = (refl, sym (append-nil (map told_of (vec_items c.args.told.now))), omega arith, refl)

pub loop-call-preserved : goal.loop-call-preserved
loop-call-preserved g c =
    let s = state_of g.B.Bank.meaning c.args.account.now in
    let calls = c.args.calls.now in
    let i = c.loop-call.call-index in
    let stepped = c.take.ensures ∙ ap (λ (t : State). step t (get_or calls i first_call)) c.loop-call.invariant.0 in
    let before = map told_of (vec_items c.args.told.now) in (
      ap (λ (r : State × Result account.Answer Refusal). r.0) stepped ∙ sym (run_more s calls i first_call c.loop-call-test.true),
      ap (map told_of) c.push_reserved.ensures.items
          ∙ told_more (vec_items c.args.told.now) (vec_items c.loop-call.told) c.take.result (answers s (take i calls)) _ c.loop-call.invariant.1 (ap (λ (r : State × Result account.Answer Refusal). r.1) stepped)
          ∙ ap (λ (later : List (Result account.Answer Refusal)). before ++ later) (sym (answers_more s calls i first_call c.loop-call-test.true)),
      omega (arith, c.push_reserved.ensures.len, c.loop-call.invariant.2),
      c.push_reserved.ensures.capacity ∙ c.loop-call.invariant.3,
    )

pub returns : goal.returns
returns g c =
    let s = state_of g.B.Bank.meaning c.args.account.now in
    let all = take_all c.loop-call.call-index c.args.calls.now (omega arith) in
    record {
      state = c.loop-call.invariant.0 ∙ ap (run s) all;
      told = c.loop-call.invariant.1 ∙ ap (λ (calls : List Call). map told_of (vec_items c.args.told.now) ++ answers s calls) all;
    }
