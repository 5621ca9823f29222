-- What is known of loading.
use Rattle.std.proofs.Common.{◌≡◌, ℕ, ◌≤◌, leb, List, ◌∷◌, ◌++◌, map, length, Some, None, Ok, Err, Option, Result, sym, refl, ap, ◌∙◌, subst, append-nil, arith}
use Rattle.std.proofs.lemmas.Bool.{le-leb}
use Rattle.forms.specs.Reads.{Told}
use Rattle.terms.specs.Refusals.{number_of}
use Rattle.terms.specs.Checks.{refused_at, before, decided}
use Rattle.terms.specs.declared.refusal.Refusal.{Refusal}
use Rattle.terms.specs.declared.refusal.Refusal.TheVariants.{Malformed, BadCard, WrongLength}
use Rattle.terms.proofs.Passed.{pass_unless, pass_places, passed_unless, passed_places}
use Rattle.text.specs.Grammar.{text_of, FirstFault}
use Rattle.text.specs.Shape.{malformed_at}
use Rattle.text.proofs.Shaped.{accepts_writings, refuses_first}
use Rattle.deck.specs.Judgements.{first_unfit}
use Rattle.load.specs.Days.{Day}
use Rattle.load.specs.Reading.{day_in}
use Rattle.load.specs.Loading.{wanted, text_checks, card_checks, cards_of, next, loading}
use Rattle.load.specs.Writing.{grid_form, family_form, basket_form, month_form, future_form, option_form, cash_form, held_form, order_form, rows_of, writing, Passes}
use Rattle.load.specs.Sessions.{LoadsDays, NamesTheFault, FaultsOfForms}
use Rattle.load.proofs.DayBack.{day_read, day_passes}
use Rattle.load.proofs.DayWritten.{ready, half_proper, f1, p1, day_written}
use Rattle.load.proofs.DayFaults.{day_formal}
use Rattle.load.proofs.Faults.{Formal}
use Rattle.load.proofs.Whole.{next_parts, refused_text, judged_day, behind_text}

-- a text that is short and well formed passes its checks
text_passes : (text : List ℕ) → length text ≤ 65536 → malformed_at text ≡ None → decided {X = Unit {0}} (text_checks text) tt ≡ Ok tt
text_passes text short none = pass_unless _ (leb (length text) 65536) (WrongLength 65536) (le-leb (length text) 65536 short) ∙ pass_places _ (malformed_at text) Malformed none

ahead : (text : List ℕ) (day : Day) → length text ≤ 65536 → Passes day → text ≡ writing day → loading wanted text ≡ Ok day
ahead text day short passes e =
    let r = ready day passes in
    let whole =
    ap (λ l. grid_form day.half ∷ (map family_form day.families ++ (map basket_form day.baskets ++ (map month_form day.months ++ (map future_form day.futures ++ (map option_form day.options ++ (rows_of day ++ (cash_form day.cash ∷ (map held_form day.held ++ l)))))))))
    (sym (append-nil (map order_form day.orders)))
    in
    let is : text ≡ text_of (grid_form day.half ∷ f1 day r) = e ∙ ap text_of whole in
    let read = day_written day r text short is in
    let formed = (accepts_writings text).0 (grid_form day.half ∷ f1 day r, (half_proper day.half, p1 day r), is) in
    let fit = (passed_places (first_unfit (cards_of day) day.held) BadCard _ (cards_of day) passes.cards).0 in
    sym (judged_day wanted text refl (sym (text_passes text short formed)) day (ap (λ t. next t (λ x. Ok x.0)) (sym read.1)))
    ∙ pass_places (Ok day) (first_unfit (cards_of day) day.held) BadCard fit

back : (text : List ℕ) (day : Day) → loading wanted text ≡ Ok day → Passes day × (text ≡ writing day)
back text day h =
    let judged = λ (x : Day × ℕ). decided (card_checks x.0) x.0 in
    let b = next_parts (decided {X = Unit {0}} (text_checks text) tt) (λ _. next (day_in wanted text) judged) day h in
    let c = next_parts (day_in wanted text) judged day b.2 in
    let short = passed_unless (leb (length text) 65536) (WrongLength 65536) _ b.0 b.1 in
    let formed = passed_places (malformed_at text) Malformed _ b.0 short.1 in
    let forms = (accepts_writings text).1 formed.0 in
    let fit = passed_places (first_unfit (cards_of c.0.0) c.0.0.held) BadCard _ day c.2 in
    let read = day_read text forms.0 c.0.0 c.0.1 forms.1 forms.2 c.1 in
    let same : c.0.0 ≡ day = ok_same c.0.0 day fit.1 in
    subst (λ (d : Day). Passes d × (text ≡ writing d)) same (day_passes c.0.0 forms.0 read fit.0, forms.2 ∙ ap text_of read.whole)
  where
    ok_same : (x y : Day) → ◌≡◌ {A = Result Day Refusal} (Ok x) (Ok y) → x ≡ y
    ok_same x y e = cc

pub loads_days : LoadsDays
loads_days text day short = ((λ p. ahead text day short p.0 p.1), back text day)

pub names_the_fault : NamesTheFault
names_the_fault text short not-formed = by (malformed_at text) refl
  where
    by : (o : Option ℕ) → malformed_at text ≡ o → (place : ℕ) × (loading wanted text ≡ Err (Malformed place)) × FirstFault text place
    by None e = absurd (not-formed ((accepts_writings text).1 e))
    by (Some place) e =
        let no : decided {X = Unit {0}} (text_checks text) tt ≡ Err (Malformed place) = pass_unless _ (leb (length text) 65536) (WrongLength 65536) (le-leb (length text) 65536 short) ∙ ap (λ (o : Option ℕ). before (refused_at Malformed o) (Ok tt)) e in
        (place, sym (refused_text wanted text refl (Malformed place) (sym no)), refuses_first text place e)

pub faults_of_forms : FaultsOfForms
faults_of_forms text why short formed h =
    let passes = text_passes text short ((accepts_writings text).0 formed) in
    by (day_in wanted text) (day_formal text formed.0 formed.1 formed.2) (behind_text wanted text refl (sym passes) ∙ h)
  where
    unfit : (o : Option ℕ) (day : Day) → before (refused_at BadCard o) (Ok day) ≡ Err why → (2 ≤ number_of why) × (number_of why ≤ 4)
    unfit None day e = let z : ◌≡◌ {A = ℕ} 0 1 = cc in absurd (omega arith)
    unfit (Some place) day e = let is : BadCard place ≡ why = cc in subst (λ (w : Refusal). (2 ≤ number_of w) × (number_of w ≤ 4)) is (omega arith, omega arith)

    by : (t : Told Day) → Formal t → next t (λ x. decided (card_checks x.0) x.0) ≡ Err why → (2 ≤ number_of why) × (number_of why ≤ 4)
    by (Ok x) f e = unfit (first_unfit (cards_of x.0) x.0.held) x.0 e
    by (Err other) f e =
        let is : other ≡ why = cc in
        let few = f other refl in
        subst (λ (w : Refusal). (2 ≤ number_of w) × (number_of w ≤ 4)) is (few.0, omega (arith, few.1))
