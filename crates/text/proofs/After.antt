-- The state that a walk over a part of a text comes to.
use Rattle.std.proofs.Common.{◌≡◌, ℕ, suc, ◌+◌, ◌<◌, ◌≤◌, List, [], ◌∷◌, ◌++◌, length, take, Some, None, Option, sym, refl, ap, ◌∙◌, arith}
use Rattle.text.specs.declared.shape.State.{State}
use Rattle.text.specs.declared.shape.State.TheVariants.{Line, OuterOpen, OuterHead, OuterSpace, InnerOpen, InnerHead, InnerSpace, Minus, Zero, Digits, InnerClosed, OuterClosed}
use Rattle.text.specs.Shape.{step, ends_at, stops}

abbrev pub after : State → List ℕ → Option State
after s [] = Some s
after s (b ∷ bs) = elim (step s b) [ None ↦ None | Some t ↦ after t bs ]

pub none_some : {X : Type 0} (x : X) → ◌≡◌ {A = Option X} None (Some x) → ⊥
none_some x e = let z : ◌≡◌ {A = ℕ} 0 1 = cc in omega arith

-- a walk that passes a first byte
pub after_step : (s t : State) (b : ℕ) (bs : List ℕ) → step s b ≡ Some t → after s (b ∷ bs) ≡ after t bs
after_step s t b bs e = rw (e, after)

pub after_stop : (s : State) (b : ℕ) (bs : List ℕ) → step s b ≡ None → after s (b ∷ bs) ≡ None
after_stop s b bs e = rw (e, after)

pub after_first : (s t : State) (b : ℕ) (bs : List ℕ) → after s (b ∷ bs) ≡ Some t → (u : State) × (step s b ≡ Some u) × (after u bs ≡ Some t)
after_first s t b bs e = go (step s b) refl
  where
    go : (o : Option State) → step s b ≡ o → (u : State) × (step s b ≡ Some u) × (after u bs ≡ Some t)
    go None f = absurd (none_some t (sym (after_stop s b bs f) ∙ e))
    go (Some u) f = (u, f, sym (after_step s u b bs f) ∙ e)

-- the walk over a longer text goes on from there
pub after_more : (s t : State) (xs ys : List ℕ) → after s xs ≡ Some t → after s (xs ++ ys) ≡ after t ys
after_more s t [] ys e = let same : s ≡ t = cc in ap (λ u. after u ys) same
after_more s t (b ∷ xs) ys e =
    let f = after_first s t b xs e in
    after_step s f.0 b (xs ++ ys) f.1 ∙ after_more f.0 t xs ys f.2

pub after_none : (s : State) (xs ys : List ℕ) → after s xs ≡ None → after s (xs ++ ys) ≡ None
after_none s [] ys e = absurd (none_some s (sym e))
after_none s (b ∷ xs) ys e = go (step s b) refl (λ u. after_none u xs ys)
  where
    go : (o : Option State) → step s b ≡ o → ((u : State) → after u xs ≡ None → after u (xs ++ ys) ≡ None) → after s (b ∷ (xs ++ ys)) ≡ None
    go None f more = after_stop s b (xs ++ ys) f
    go (Some u) f more = after_step s u b (xs ++ ys) f ∙ more u (sym (after_step s u b xs f) ∙ e)

-- every state can be led to the end of a line
pub finish : (t : State) → (rest : List ℕ) × (after t rest ≡ Some Line)
finish Line = ([], refl)
finish OuterOpen = (97 ∷ 41 ∷ 10 ∷ [], refl)
finish OuterHead = (41 ∷ 10 ∷ [], refl)
finish OuterSpace = (40 ∷ 97 ∷ 41 ∷ 41 ∷ 10 ∷ [], refl)
finish InnerOpen = (97 ∷ 41 ∷ 41 ∷ 10 ∷ [], refl)
finish InnerHead = (41 ∷ 41 ∷ 10 ∷ [], refl)
finish InnerSpace = (48 ∷ 41 ∷ 41 ∷ 10 ∷ [], refl)
finish Minus = (49 ∷ 41 ∷ 41 ∷ 10 ∷ [], refl)
finish Zero = (41 ∷ 41 ∷ 10 ∷ [], refl)
finish (Digits k) = (41 ∷ 41 ∷ 10 ∷ [], refl)
finish InnerClosed = (41 ∷ 10 ∷ [], refl)
finish OuterClosed = (10 ∷ [], refl)

some_none : {X : Type 0} (x : X) → ◌≡◌ {A = Option X} (Some x) None → ⊥
some_none x e = none_some x (sym e)

ends_line : (s : State) (p : ℕ) → ends_at s p ≡ None → s ≡ Line
ends_line Line p e = refl
ends_line OuterOpen p e = absurd (some_none p e)
ends_line OuterHead p e = absurd (some_none p e)
ends_line OuterSpace p e = absurd (some_none p e)
ends_line InnerOpen p e = absurd (some_none p e)
ends_line InnerHead p e = absurd (some_none p e)
ends_line InnerSpace p e = absurd (some_none p e)
ends_line Minus p e = absurd (some_none p e)
ends_line Zero p e = absurd (some_none p e)
ends_line (Digits k) p e = absurd (some_none p e)
ends_line InnerClosed p e = absurd (some_none p e)
ends_line OuterClosed p e = absurd (some_none p e)

ends_other : (s : State) (p q : ℕ) → ends_at s p ≡ Some q → (q ≡ p) × (s ≡ Line → ⊥)
ends_other s p q e = (go s e, λ f. none_some q (sym (ap (λ u. ends_at u p) f) ∙ e))
  where
    go : (u : State) → ends_at u p ≡ Some q → q ≡ p
    go Line f = absurd (none_some q f)
    go OuterOpen f = cc
    go OuterHead f = cc
    go OuterSpace f = cc
    go InnerOpen f = cc
    go InnerHead f = cc
    go InnerSpace f = cc
    go Minus f = cc
    go Zero f = cc
    go (Digits k) f = cc
    go InnerClosed f = cc
    go OuterClosed f = cc

-- a walk that does not stop comes to the end of a line
pub none_after : (s : State) (p : ℕ) (bs : List ℕ) → stops s p bs ≡ None → after s bs ≡ Some Line
none_after s p [] e = ap Some (ends_line s p e)
none_after s p (b ∷ bs) e = go (step s b) refl (λ u. none_after u (p + 1) bs)
  where
    go : (o : Option State) → step s b ≡ o → ((u : State) → stops u (p + 1) bs ≡ None → after u bs ≡ Some Line) → after s (b ∷ bs) ≡ Some Line
    go None f more = absurd (some_none p (rw (f, stops) at e))
    go (Some u) f more = after_step s u b bs f ∙ more u (rw (f, stops) at e)

pub after_stops_none : (s : State) (p : ℕ) (bs : List ℕ) → after s bs ≡ Some Line → stops s p bs ≡ None
after_stops_none s p [] e = let same : s ≡ Line = cc in ap (λ u. ends_at u p) same
after_stops_none s p (b ∷ bs) e =
    let f = after_first s Line b bs e in
    let g = f.1 in
    rw (g, stops) (after_stops_none f.0 (p + 1) bs f.2)

-- where a walk stops: k bytes are passed, and the next one, or the end, is not
pub record Stop (s : State) (bs : List ℕ) (k : ℕ) : Type 0 where
  pub within : k ≤ length bs
  pub state : State
  pub passed : after s (take k bs) ≡ Some state
  pub byte : k < length bs → after s (take (suc k) bs) ≡ None
  pub end : k ≡ length bs → after s bs ≡ Some Line → ⊥

pub some_stop : (s : State) (p q : ℕ) (bs : List ℕ) → stops s p bs ≡ Some q → (k : ℕ) × (q ≡ p + k) × Stop s bs k
some_stop s p q [] e =
    let o = ends_other s p q e in
    (0, omega arith, record { within = omega arith; state = s; passed = refl; byte = λ h. absurd (omega arith); end = λ _ f. o.1 (let same : s ≡ Line = cc in same) })
some_stop s p q (b ∷ bs) e = go (step s b) refl (λ u. some_stop u (p + 1) q bs)
  where
    go : (o : Option State) → step s b ≡ o → ((u : State) → stops u (p + 1) bs ≡ Some q → (k : ℕ) × (q ≡ p + 1 + k) × Stop u bs k) → (k : ℕ) × (q ≡ p + k) × Stop s (b ∷ bs) k
    go None f more =
        let same : p ≡ q = let g : ◌≡◌ {A = Option ℕ} (Some p) (Some q) = rw (f, stops) at e in cc in
        (0, omega arith, record { within = omega arith; state = s; passed = refl; byte = λ _. after_stop s b [] f; end = λ h. absurd (omega arith) })
    go (Some u) f more =
        let m = more u (rw (f, stops) at e) in
        let r = m.2 in (
          suc m.0,
          omega (arith, m.1),
          record {
            within = omega (arith, r.within);
            state = r.state;
            passed = after_step s u b (take m.0 bs) f ∙ r.passed;
            byte = λ h. after_step s u b (take (suc m.0) bs) f ∙ r.byte (omega arith);
            end = λ h g. r.end (omega arith) (sym (after_step s u b bs f) ∙ g);
          },
        )
