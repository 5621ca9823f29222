use Rattle.std.proofs.Common.{◌≡◌, ℕ, ℤ, Err, Result, sym, ap, ◌∙◌, w64, SFits, to_z, of_z, rules}
use Rattle.std.proofs.lemmas.Int.{to_z-of_z}
use Rattle.terms.specs.declared.refusal.Refusal.{Refusal}
use Rattle.banks.specs.Layers.{scale_judged, scale_of, Scales}
use Rattle.banks.specs.Outcomes.{making}
use Rattle.terms.proofs.Passed.{law_made, law_refused}
use Rattle.banks.proofs.Scaled.{scale_passed, scale_allowed, scale_made_lem}
use Rattle.banks.proofs.scale.Scale.new.Goals as goal

-- how the factor was judged, whichever way it was passed on
judged-as : (factor : ℤ) (reach reach' : ℕ) (r j : Result ℕ Refusal) → SFits w64 factor → r ≡ scale_judged (to_z w64 (of_z w64 factor)) reach' → reach' ≡ reach → r ≡ j → scale_judged factor reach ≡ j
judged-as factor reach reach' r j whole e same is = simp (to_z-of_z w64 factor whole) at (ap (scale_judged (to_z w64 (of_z w64 factor))) (sym same) ∙ sym e ∙ is)

pub returns-in_err-factor : goal.returns-in_err-factor
returns-in_err-factor g c =
    let m = g.B.Bank.meaning c.args.bank in
    let why = c.in_err-factor.field-0.0 in
    let judged = judged-as c.args.factor m.reach _ _ _ c.ranges.factor c.judged.ensures c.reach.ensures.value c.in_err-factor.was in
    let handed : c.from_residual.result ≡ Err why = search rules in
    rw handed (record {
      made = sym (ap (λ j. making j (λ f. scale_of f m)) judged);
      law = law_refused _ (Scales c.args.factor m) (scale_passed c.args.factor m) (scale_allowed c.args.factor m) why judged;
    })

pub returns : goal.returns
returns g c =
    let m = g.B.Bank.meaning c.args.bank in
    let judged = judged-as c.args.factor m.reach _ _ _ c.ranges.factor c.judged.ensures c.reach.ensures.value c.in_ok-factor.was in
    record {
      made = scale_made_lem c.args.factor m (g.B.Bank.sound c.args.bank) c.in_ok-factor.factor judged;
      law = law_made _ (Scales c.args.factor m) (scale_passed c.args.factor m) (scale_allowed c.args.factor m) c.in_ok-factor.factor judged;
    }
