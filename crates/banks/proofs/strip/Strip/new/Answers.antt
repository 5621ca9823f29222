use Rattle.std.proofs.Common.{◌≡◌, true, List, length, ℤ, Ok, Err, Result, sym, ap, ◌∙◌, w64, SFits, to_z, of_z, rules}
use Rattle.std.proofs.lemmas.Int.{to_z-of_z}
use Rattle.std.proofs.lemmas.List.Elements.{All-from_get_or}
use Rattle.std.specs.List.{All}
use Rattle.terms.specs.Cards.{future_fits}
use Rattle.terms.specs.declared.cards.Line.{Line}
use Rattle.terms.specs.declared.half.Half.{Half}
use Rattle.terms.specs.declared.refusal.Refusal.{Refusal}
use Rattle.banks.specs.Outcomes.{making}
use Rattle.banks.specs.Strips.{strip_of, strip_judged, Strips, strip_meaning, no_line}
use Rattle.terms.proofs.Passed.{law_made, law_refused}
use Rattle.banks.proofs.Stripped.{strip_passed, strip_allowed, strip_made_lem}
use Rattle.banks.proofs.strip.Strip.new.Goals as goal

-- how the half was judged, whichever way it was passed on
judged-as : (half : ℤ) (cards : List Line) (r j : Result Half Refusal) → SFits w64 half → r ≡ strip_judged (to_z w64 (of_z w64 half)) cards → r ≡ j → strip_judged half cards ≡ j
judged-as half cards r j whole e is = simp (to_z-of_z w64 half whole) at (sym e ∙ is)

pub returns-in_err-half : goal.returns-in_err-half
returns-in_err-half c =
    let half = c.args.half in
    let cards = c.args.futures.now in
    let why = c.in_err-half.field-0.0 in
    let judged = judged-as half cards _ _ c.ranges.half c.judged.ensures c.in_err-half.was in
    let handed : c.from_residual.result ≡ Err why = search rules in
    rw handed (record {
      made = sym (ap (λ j. making j (λ grid. strip_of grid cards)) judged);
      law = law_refused _ (Strips half cards) (strip_passed half cards) (strip_allowed half cards) why judged;
    })

-- cards that were judged as a strip on a grid all fit
fitting : (half : ℤ) (cards : List Line) (grid : Half) → strip_judged half cards ≡ Ok grid → All (λ card. future_fits card ≡ true) cards
fitting half cards grid e = All-from_get_or (λ card. future_fits card ≡ true) cards no_line (strip_passed half cards grid e).fitting

pub invariant_of-fitting : goal.invariant_of-fitting
invariant_of-fitting c =
    let judged = judged-as c.args.half c.args.futures.now _ _ c.ranges.half c.judged.ensures c.in_ok-half.was in
    record {
      fitting = fitting c.args.half c.args.futures.now c.in_ok-half.half judged;
      few = (strip_passed c.args.half c.args.futures.now c.in_ok-half.half judged).few_lines;
    }

pub returns : goal.returns
returns c =
    let half = c.args.half in
    let cards = c.args.futures.now in
    let judged = judged-as half cards _ _ c.ranges.half c.judged.ensures c.in_ok-half.was in
    record {
      made = ap (λ reach. Ok (strip_meaning (record { half = c.in_ok-half.half; count = length cards; reach = reach; quotes = c.quotes.result }))) c.reach.ensures
          ∙ strip_made_lem half cards c.in_ok-half.half judged c.quotes.result c.quotes.ensures.each;
      law = law_made _ (Strips half cards) (strip_passed half cards) (strip_allowed half cards) c.in_ok-half.half judged;
    }
