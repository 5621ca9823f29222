-- No more records are read than there is room for; and lists over which records were written.
use Rattle.std.proofs.Common.{◌≡◌, ℕ, zero, suc, ◌+◌, ◌-◌, ◌≤◌, Bool, true, false, not, List, [], ◌∷◌, ◌++◌, length, take, drop, ℤ, Ok, sym, refl, ap, ◌∙◌, append_assoc, arith, length-append}
use Rattle.std.proofs.lemmas.List.{take-append-drop, take_at, drop_at, drop-drop}
use Rattle.terms.specs.declared.refusal.Refusal.TheVariants.{WrongForm}
use Rattle.text.proofs.Readback.{ok_parts}
use Rattle.forms.specs.Fields.{Asked}
use Rattle.forms.specs.Reads.{Told, then, begins, form_in, list_on}
use Rattle.forms.proofs.Written.{given_ok, then_ok_parts}
use Rattle.kinds.specs.Formats.{future_format, option_format}
use Rattle.terms.specs.declared.cards.Line.{Line}
use Rattle.load.specs.declared.lists.Lengths.{Lengths}
use Rattle.load.specs.Reading.{over, some_at, any_at, lines_in}

module _ {R : Type 0} (head : List ℕ) (fields : List Asked) (empty : R) (fill : ℕ → R → ℕ → ℤ → R) (text : List ℕ) where
  list_room : (room : ℕ) (rs xs : List R) (at q : ℕ) → list_on head fields empty fill text room rs at ≡ Ok (xs, q) → length xs ≤ length rs + room
  unfolding list_on
  list_room zero rs xs at q e =
      let same = ap length (ok_parts rs xs at q (given_ok (not (begins head text at)) (WrongForm at) (Ok (rs, at)) xs q e).1).0 in
      omega arith
  list_room (suc room) rs xs at q e = by (begins head text at) e (λ r p f. omega (arith, list_room room (rs ++ (r ∷ [])) xs p q f, length-append rs (r ∷ [])))
    where
      by : (b : Bool) → ◌≡◌ {A = Told (List R)} (elim b [ false ↦ Ok (rs, at) | true ↦ then (form_in head fields empty fill text at) (λ r p. list_on head fields empty fill text room (rs ++ (r ∷ [])) p) ]) (Ok (xs, q)) → ((r : R) (p : ℕ) → list_on head fields empty fill text room (rs ++ (r ∷ [])) p ≡ Ok (xs, q) → length xs ≤ length rs + suc room) → length xs ≤ length rs + suc room
      by false f more = let same = ap length (ok_parts rs xs at q f).0 in omega arith
      by true f more =
          let p = then_ok_parts (form_in head fields empty fill text at) (λ r p. list_on head fields empty fill text room (rs ++ (r ∷ [])) p) xs q f in
          more p.0 p.1 p.3

  pub any_room : (room : ℕ) (xs : List R) (at q : ℕ) → list_on head fields empty fill text room [] at ≡ Ok (xs, q) → length xs ≤ room
  any_room room xs at q e = omega (arith, list_room room [] xs at q e)

pub lines_room : (room : Lengths) (text : List ℕ) (x : List Line × List Line) (at q : ℕ) → lines_in room text at ≡ Ok (x, q) → length x.1 ≤ room.lines
unfolding lines_in
lines_room room text x at q e =
    let first = then_ok_parts (some_at future_format text room.lines at) _ x q e in
    let second = then_ok_parts (any_at option_format text (room.lines - length first.0) first.1) _ x q first.3 in
    let same = ap (λ (y : List Line × List Line). length y.1) (ok_parts (first.0, second.0) x second.1 q second.3).0 in
    omega (arith, same, any_room _ _ _ _ text (room.lines - length first.0) second.0 first.1 second.1 second.2)

module _ {R : Type 0} (xs ys before : List R) where
  pub take_over : take (length xs) (over xs before) ≡ xs
  take_over = take_at xs (drop (length xs) before) (length xs) refl

  pub drop_over : drop (length xs) (over xs before) ≡ drop (length xs) before
  drop_over = drop_at xs (drop (length xs) before) (length xs) refl

  -- records behind those written before
  pub over_both : (l : List R) → take (length xs) l ≡ xs → drop (length xs) l ≡ over ys (drop (length xs) before) → l ≡ over (xs ++ ys) before
  over_both l f e =
      sym (take-append-drop (length xs) l)
      ∙ ap (λ t. t ++ drop (length xs) l) f
      ∙ ap (λ t. xs ++ t) (e ∙ ap (λ t. ys ++ t) (drop-drop (length ys) (length xs) before))
      ∙ sym (append_assoc xs ys (drop (length xs + length ys) before))
      ∙ ap (λ n. (xs ++ ys) ++ drop n before) (sym (length-append xs ys))
