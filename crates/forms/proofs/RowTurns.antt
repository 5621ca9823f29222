-- What was read into a list, by cases; and how many prices a row adds.
use Rattle.std.proofs.Common.{◌≡◌, ℕ, zero, suc, ◌+◌, ◌-◌, ◌/◌, ◌%◌, ◌<◌, ◌≤◌, leb, List, [], ◌∷◌, ◌++◌, length, get_or, take, drop, ℤ, pos, Ok, Err, sym, refl, ap, ◌∙◌, arith, append_assoc, length-append}
use borrow.Rule.Slice.PartMut.{put_mid}
use Rattle.std.proofs.lemmas.List.{append-nil, take_at, drop_at, drop-drop, length-take-le}
use Rattle.std.proofs.lemmas.Bool.{le-leb, lt-leb}
use Rattle.terms.specs.Halves.{points}
use Rattle.terms.specs.declared.half.Half.{Half}
use Rattle.terms.specs.declared.refusal.Refusal.{Refusal}
use Rattle.terms.specs.declared.refusal.Refusal.TheVariants.{WrongForm}
use Rattle.text.proofs.Readback.{ok_parts, err_ok}
use Rattle.forms.specs.Fields.{Asked}
use Rattle.forms.specs.Reads.{Told, then, given, spaced_in, open_in, head_in, numbers_in, inner_in, byte_in, close_in, Listed}
use Rattle.forms.specs.Rows.{added, prices_asked, front_in, row_in, rows_in}
use Rattle.forms.specs.declared.field.Allowed.{Allowed}
use Rattle.forms.proofs.There.{then_same}

module _ {R : Type 0} (at : ℕ) (before after : List R) where
  -- a list that was filled holds what was read
  pub listed_yes : (t : Told (List R)) (n : ℕ) → Listed t (Ok n) at before after → (xs : List R) × (Ok (xs, at) ≡ t) × (n ≡ length xs) × (after ≡ xs ++ drop (length xs) before)
  listed_yes (Ok x) n h = let here = h.0 in let count : n ≡ length x.0 = cc in (x.0, ap (λ p. Ok (x.0, p)) h.1, count, h.2)
  listed_yes (Err e) n h = absurd (err_ok n e (sym h))

  pub listed_no : (t : Told (List R)) (e : Refusal) → Listed t (Err e) at before after → Err e ≡ t
  listed_no (Ok x) e h = absurd (err_ok (length x.0) e h.0)
  listed_no (Err f) e h = let same : e ≡ f = cc in ap Err same

-- a list of which a part was filled, from a place on
module _ (a n k : ℕ) (xs ys : List ℤ) (inside : a ≤ length xs) (long : length ys ≡ n) (whole : k ≡ n) where
  front_long : length (take a xs ++ ys) ≡ a + n
  front_long = omega (arith, length-append (take a xs) ys, length-take-le a xs inside)

  pub filled_front : take (a + n) (put_mid a k xs ys) ≡ take a xs ++ ys
  filled_front = ap (take (a + n)) (sym (append_assoc (take a xs) ys (drop k (drop a xs)))) ∙ take_at (take a xs ++ ys) (drop k (drop a xs)) (a + n) front_long

  pub filled_rest : drop (a + n) (put_mid a k xs ys) ≡ drop (a + n) xs
  filled_rest = ap (drop (a + n)) (sym (append_assoc (take a xs) ys (drop k (drop a xs)))) ∙ drop_at (take a xs ++ ys) (drop k (drop a xs)) (a + n) front_long ∙ drop-drop k a xs ∙ ap (λ m. drop (a + m) xs) whole

  pub filled_long : a + n ≤ length (put_mid a k xs ys)
  filled_long = omega (arith, length-append (take a xs) (ys ++ drop k (drop a xs)), length-append ys (drop k (drop a xs)), length-take-le a xs inside)

-- what was read, as something else
abbrev pub mapped : {X Y : Type 0} → (X → Y) → Told X → Told Y
mapped f (Ok r) = Ok (f r.0, r.1)
mapped f (Err e) = Err e

mapped_then : {X Y Z : Type 0} (f : Y → Z) (t : Told X) (g : X → ℕ → Told Y) → mapped f (then t g) ≡ then t (λ x q. mapped f (g x q))
mapped_then f (Ok r) g = refl
mapped_then f (Err e) g = refl

-- and a last step behind it
mapped_last : {X Y Z : Type 0} (f : X → Y) (t : Told X) (last : ℕ → Told Z) → then (mapped f t) (λ x q. then (last q) (λ _ u. Ok (x, u))) ≡ mapped f (then t (λ x q. then (last q) (λ _ u. Ok (x, u))))
mapped_last f (Ok r) last = sym (mapped_then f (last r.1) (λ _ u. Ok (r.0, u)))
mapped_last f (Err e) last = refl

inner_mapped : {X Y : Type 0} (f : X → Y) (g : Y → ℕ → ℤ → Y) (h : X → ℕ → ℤ → X) (a : Asked) (text : List ℕ) (y : Y) (x : X) (at : ℕ) → ((q : ℕ) → numbers_in g a.allowed text a.count 0 y q ≡ mapped f (numbers_in h a.allowed text a.count 0 x q)) → inner_in g a text y at ≡ mapped f (inner_in h a text x at)
unfolding inner_in
inner_mapped f g h a text y x at numbers =
    then_same _ _ _ _ refl (λ bracket p _.
    then_same _ _ _ _ refl (λ _ q _.
    ap (λ t. then t (λ s u. then (byte_in 41 text u) (λ _ v. Ok (s, v)))) (numbers q)
    ∙ mapped_last f (numbers_in h a.allowed text a.count 0 x q) (byte_in 41 text))
    ∙ sym (mapped_then f (head_in a bracket text p) _))
    ∙ sym (mapped_then f (open_in text at) _)

-- prices behind those that were read before
abbrev pub behind : List ℤ → Told (List ℤ) → Told (List ℤ)
behind ps t = mapped (λ xs. ps ++ xs) t

numbers_behind : (allowed : Allowed) (text : List ℕ) (count index : ℕ) (ps xs : List ℤ) (at : ℕ) → numbers_in added allowed text count index (ps ++ xs) at ≡ behind ps (numbers_in added allowed text count index xs at)
unfolding numbers_in
numbers_behind allowed text zero index ps xs at = refl
numbers_behind allowed text (suc count) index ps xs at =
    by (spaced_in allowed text at) (numbers_behind allowed text count (index + 1) ps) ∙ sym (mapped_then (λ ys. ps ++ ys) (spaced_in allowed text at) (λ n p. numbers_in added allowed text count (index + 1) (added xs index n) p))
  where
    by : (t : Told ℤ) → ((ys : List ℤ) (q : ℕ) → numbers_in added allowed text count (index + 1) (ps ++ ys) q ≡ behind ps (numbers_in added allowed text count (index + 1) ys q)) → then t (λ n p. numbers_in added allowed text count (index + 1) (added (ps ++ xs) index n) p) ≡ then t (λ n p. behind ps (numbers_in added allowed text count (index + 1) (added xs index n) p))
    by (Ok r) h = ap (λ l. numbers_in added allowed text count (index + 1) l r.1) (append_assoc ps xs (r.0 ∷ [])) ∙ h (xs ++ (r.0 ∷ [])) r.1
    by (Err e) h = refl

inner_behind : (a : Asked) (text : List ℕ) (ps : List ℤ) (at : ℕ) → inner_in added a text ps at ≡ behind ps (inner_in added a text [] at)
inner_behind a text ps at = inner_mapped (λ xs. ps ++ xs) added added a text ps [] at (λ q. ap (λ xs. numbers_in added a.allowed text a.count 0 xs q) (sym (append-nil ps)) ∙ numbers_behind a.allowed text a.count 0 ps [] q)

-- a single number, as a list
numbers_alone : (allowed : Allowed) (text : List ℕ) (q : ℕ) → numbers_in added allowed text 1 0 [] q ≡ mapped (λ n. n ∷ []) (numbers_in (λ _ _ n. n) allowed text 1 0 (pos 0) q)
unfolding numbers_in
numbers_alone allowed text q = sym (mapped_then (λ n. n ∷ []) (spaced_in allowed text q) (λ n p. Ok (n, p)))

pub inner_alone : (a : Asked) (text : List ℕ) (at : ℕ) → a.count ≡ 1 → inner_in added a text [] at ≡ mapped (λ n. n ∷ []) (inner_in (λ _ _ n. n) a text (pos 0) at)
inner_alone a text at one =
    inner_mapped (λ n. n ∷ []) added (λ _ _ n. n) a text [] (pos 0) at (λ q.
    ap (λ k. numbers_in added a.allowed text k 0 [] q) one
    ∙ numbers_alone a.allowed text q
    ∙ ap (λ k. mapped (λ n. n ∷ []) (numbers_in (λ _ _ n. n) a.allowed text k 0 (pos 0) q)) (sym one))

pub one_read : (t : Told ℤ) (xs : List ℤ) (at : ℕ) → Ok (xs, at) ≡ mapped (λ n. n ∷ []) t → Ok (get_or xs 0 (pos 0), at) ≡ t
one_read (Ok r) xs at e = let p = ok_parts xs (r.0 ∷ []) at r.1 e in λ i. Ok (get_or (p.0 i) 0 (pos 0), p.1 i)
one_read (Err f) xs at e = absurd (err_ok (xs, at) f (sym e))

pub none_read : {X Y : Type 0} (f : X → Y) (t : Told X) (e : Refusal) → Err e ≡ mapped f t → Err e ≡ t
none_read f (Ok r) e h = absurd (err_ok (f r.0, r.1) e h)
none_read f (Err g) e h = let same : e ≡ g = cc in ap Err same

pub row_behind : (line column : ℕ) (half : Half) (text : List ℕ) (ps : List ℤ) (at : ℕ) → row_in line column half text ps at ≡ behind ps (row_in line column half text [] at)
unfolding row_in
row_behind line column half text ps at =
    then_same _ _ _ _ refl (λ _ p _.
    ap (λ t. then t (λ xs q. then (close_in text q) (λ _ u. Ok (xs, u)))) (inner_behind (prices_asked half column) text ps p)
    ∙ mapped_last (λ xs. ps ++ xs) (inner_in added (prices_asked half column) text [] p) (close_in text))
    ∙ sym (mapped_then (λ xs. ps ++ xs) (front_in line column text at) _)

module _ (first : ℕ) (half : Half) (text : List ℕ) (room count index : ℕ) (ps : List ℤ) (at : ℕ) where
  abbrev row : Told (List ℤ)
  row = row_in (first + index / 7) (index % 7) half text ps at

  abbrev more : List ℤ → ℕ → Told (List ℤ)
  more qs p = rows_in first half text room (count - (index + 1)) (index + 1) qs p

  turn : index < count → rows_in first half text room (count - index) index ps at ≡ given (leb (length ps + points half) room) (WrongForm at) (then row more)
  unfolding rows_in
  turn h = let one : count - index ≡ suc (count - (index + 1)) = omega arith in ap (λ left. rows_in first half text room left index ps at) one

  pub rows_full : index < count → room < length ps + points half → Err (WrongForm at) ≡ rows_in first half text room (count - index) index ps at
  rows_full h full = sym (turn h ∙ ap (λ t. given t (WrongForm at) (then row more)) (lt-leb (length ps + points half) room full))

  fits : index < count → length ps + points half ≤ room → rows_in first half text room (count - index) index ps at ≡ then row more
  fits h e = turn h ∙ ap (λ t. given t (WrongForm at) (then row more)) (le-leb (length ps + points half) room e)

  pub rows_break : (e : Refusal) → index < count → length ps + points half ≤ room → Err e ≡ row → Err e ≡ rows_in first half text room (count - index) index ps at
  rows_break e h k f = sym (fits h k ∙ ap (λ t. then t more) (sym f))

  pub rows_more : (qs : List ℤ) (p : ℕ) → index < count → length ps + points half ≤ room → Ok (qs, p) ≡ row → more qs p ≡ rows_in first half text room (count - index) index ps at
  rows_more qs p h k f = sym (fits h k ∙ ap (λ t. then t more) (sym f))

  pub rows_end : count ≤ index → Ok (ps, at) ≡ rows_in first half text room (count - index) index ps at
  unfolding rows_in
  rows_end h = let none : count - index ≡ 0 = omega arith in ap (λ left. rows_in first half text room left index ps at) (sym none)
