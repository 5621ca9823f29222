-- What `reduce` gives, where each call of its closure gives what a function h gives.
use Rattle.std.proofs.Common.{◌≡◌, List, [], ◌∷◌, Some, None, Option, refl, ap, subst, MatchOption}
use Rattle.std.proofs.lemmas.Iterator.{YieldsList}
use Rattle.std.proofs.lemmas.Iterator.Consumers.{reduce_from_yields_List}
use Rattle.std.specs.Fn.{Called}
use Rattle.std.specs.Iterator.{ActsAsOnTwo, ReducesItems, Drains}
use Rattle.std.specs.List.{FoldsTo, reduce}
use denote.Param.Members.{Mut}

module _ {A F : Type 0} (g : Mut F (A × (A × Unit {0})) A) (h : A → A → A) (f : F) (acts : ActsAsOnTwo g f h) where
  plain : (xs : List A) (p q : F × A) → p.0 ≡ f → FoldsTo {P = F × A} (λ p x q. Called g p.0 (p.1, (x, tt)) q.1 q.0) p xs q → FoldsTo (λ p x q. q ≡ h p x) p.1 xs q.1
  plain [] p q e calls = ap (λ r. r.1) calls
  plain (x ∷ xs) p q e (j, call, calls) =
      let k = acts p.1 x j.1 j.0 (subst (λ s. Called g s (p.1, (x, tt)) j.1 j.0) e call) in
      (j.1, k.1, plain xs j q k.0 calls)

  turned : {S : Type 0} (steps : S → Option A → S → Type 0) (s : S) (r : Option A) → ReducesItems steps g s f r → MatchOption r (Drains steps s []) (λ y. (x : A) × (xs : List A) × Drains steps s (x ∷ xs) × FoldsTo (λ p z c. c ≡ h p z) x xs y)
  turned steps s None ran = ran
  turned steps s (Some y) (x, xs, f', drained, calls) = (x, xs, drained, plain xs (f, x) (f', y) refl calls)

  pub reduced : {S : Type 0} {steps : S → Option A → S → Type 0} {s : S} {all : List A} (r : Option A) → ReducesItems steps g s f r → YieldsList steps (λ x. x) s all → r ≡ reduce h all
  reduced {S} {steps} {s} r ran given = reduce_from_yields_List h s r (turned steps s r ran) given
