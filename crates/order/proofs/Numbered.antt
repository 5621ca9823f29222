-- The least item is found from the front of a list as well: an item that went ahead of one stays ahead of what that one went ahead of.
use Rattle.std.proofs.Common.{◌≡◌, ℕ, suc, ◌+◌, Bool, true, false, List, [], ◌∷◌, map, fold, Some, None, Option, sym, refl, ap, ◌∙◌, add-one}
use Rattle.std.proofs.lemmas.Bool.{false≢true}
use Rattle.std.specs.List.{enumerate_from, reduce}
use Rattle.order.proofs.Found.{other_way}
use Rattle.order.specs.Orders.{TotalOrder, lesser_of, least_from, first_least}

module _ {X : Type 0} {at_most : X → X → Bool} (o : TotalOrder at_most) where
  -- of two items, the one that comes first
  earlier : X × ℕ → X × ℕ → X × ℕ
  earlier p q = lesser_of at_most p (Some q)

  pick : Bool → X × ℕ → X × ℕ → X × ℕ
  pick b p q = elim b [ true ↦ p | false ↦ q ]

  grouped : (p q r : X × ℕ) → earlier (earlier p q) r ≡ earlier p (earlier q r)
  unfolding earlier pick
  grouped p q r = go (at_most p.0 q.0) (at_most q.0 r.0) (at_most p.0 r.0) refl refl refl
    where
      go : (a b c : Bool) → at_most p.0 q.0 ≡ a → at_most q.0 r.0 ≡ b → at_most p.0 r.0 ≡ c → earlier (pick a p q) r ≡ earlier p (pick b q r)
      go true true true e f h = ap (λ t. pick t p r) h ∙ sym (ap (λ t. pick t p q) e)
      go true true false e f h = absurd (false≢true (sym h ∙ o.transitive p.0 q.0 r.0 e f))
      go true false c e f h = refl
      go false true c e f h = ap (λ t. pick t q r) f ∙ sym (ap (λ t. pick t p q) e)
      go false false true e f h = absurd (false≢true (sym e ∙ o.transitive p.0 r.0 q.0 h (other_way o q.0 r.0 f)))
      go false false false e f h = ap (λ t. pick t q r) f ∙ sym (ap (λ t. pick t p r) h)

  numbered : ℕ → List X → List (X × ℕ)
  numbered i xs = map {A = ℕ × X} (λ p. (p.1, p.0)) (enumerate_from i xs)

  from_front : (p : X × ℕ) (i : ℕ) (xs : List X) → fold earlier p (numbered i xs) ≡ lesser_of at_most p (least_from at_most i xs)
  unfolding earlier numbered least_from
  from_front p i [] = refl
  from_front p i (x ∷ xs) =
      from_front (earlier p (x, i)) (i + 1) xs ∙ ap (λ n. lesser_of at_most (earlier p (x, i)) (least_from at_most n xs)) (add-one i) ∙ go (least_from at_most (suc i) xs)
    where
      go : (rest : Option (X × ℕ)) → lesser_of at_most (earlier p (x, i)) rest ≡ earlier p (lesser_of at_most (x, i) rest)
      go None = refl
      go (Some r) = grouped p (x, i) r

  pub least_numbered : (xs : List X) (found : Option (X × ℕ)) → found ≡ reduce (λ p q. lesser_of at_most p (Some q)) (map {A = ℕ × X} (λ p. (p.1, p.0)) (enumerate_from 0 xs)) → found ≡ first_least at_most xs
  unfolding earlier numbered least_from
  least_numbered [] found e = e
  least_numbered (x ∷ xs) found e = e ∙ ap Some (from_front (x, 0) (0 + 1) xs)
