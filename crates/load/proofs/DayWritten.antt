-- The writing of a day that passes the checks is read as that day.
use Rattle.std.proofs.Common.{◌≡◌, ℕ, zero, suc, ◌+◌, ◌-◌, ◌*◌, ◌≤◌, true, false, leb, List, [], ◌∷◌, ◌++◌, map, length, take, drop, ℤ, pos, negsuc, Ok, codes, sym, refl, ap, ◌∙◌, subst, arith, lit<, lit≤, length-append}
use Rattle.std.specs.List.{AllByRecursion}
use Rattle.std.specs.Fmt.{signed_decimal}
use Rattle.std.proofs.lemmas.List.{length-drop, take-append-drop}
use Rattle.std.proofs.lemmas.Bool.{and_parts, leb-true, lt-ltb, le-leb}
use Rattle.terms.specs.Cards.{within}
use Rattle.terms.specs.Halves.{half_size, points}
use Rattle.terms.specs.declared.half.Half.TheVariants.{One, Two, Four, Eight}
use Rattle.terms.specs.declared.half.Half.{Half}
use Rattle.terms.specs.declared.refusal.Refusal.TheVariants.{BadCard, WrongShape}
use Rattle.terms.proofs.Passed.{passed_unless, passed_places}
use Rattle.text.specs.Grammar.{Outer, Proper, outer_text, text_of}
use Rattle.text.specs.Writing.{InRange, Writes}
use Rattle.text.proofs.Decimal.{one_writing}
use Rattle.deck.specs.Judgements.{first_unfit, counted}
use Rattle.deck.proofs.Facts.{along_none}
use Rattle.forms.specs.Judged.{same}
use Rattle.forms.proofs.Told.{then_ok, given_yes}
use Rattle.kinds.specs.Formats.{Format, grid_format, family_format, basket_format, month_format, future_format, option_format, cash_format, held_format, order_format}
use Rattle.kinds.specs.declared.Order.{Order}
use Rattle.load.specs.Days.{Day}
use Rattle.load.specs.Reading.{some_at, some_in, cards_in, lines_in, contracts_in, end_in, book_in, day_in}
use Rattle.load.specs.Loading.{wanted, cards_of}
use Rattle.load.specs.Writing.{grid_form, family_form, basket_form, month_form, future_form, option_form, cash_form, held_form, order_form, row_forms, RowsFit, OrderFits, Passes}
use Rattle.load.proofs.Codecs.{Codec, grid_codec, family_codec, basket_codec, month_codec, future_codec, option_codec, cash_codec, held_codec, order_codec}
use Rattle.load.proofs.Back.{Good, Other, other_map, all_proper, any_ahead, form_written}
use Rattle.load.proofs.RowsBack.{rows_written}
use Rattle.load.proofs.InRange.{count_in, rows_proper, points_few}
use Rattle.load.proofs.DayAhead.{none_both, families_good, baskets_good, months_good, futures_good, options_good, records_good, cash_good, orders_good}

-- ---- a day that can be written

pub record Ready (day : Day) : Type 0 where
  pub families : AllByRecursion (Good family_format family_codec) day.families
  pub baskets : AllByRecursion (Good basket_format basket_codec) day.baskets
  pub months : AllByRecursion (Good month_format month_codec) day.months
  pub futures : AllByRecursion (Good future_format future_codec) day.futures
  pub options : AllByRecursion (Good option_format option_codec) day.options
  pub prices : RowsFit day.half (7 * length day.options) 0 day.prices
  pub cash : Good cash_format cash_codec day.cash
  pub held : AllByRecursion (Good held_format held_codec) day.held
  pub orders : AllByRecursion (Good order_format order_codec) day.orders
  pub some_families : 1 ≤ length day.families
  pub few_families : length day.families ≤ 2
  pub some_baskets : 1 ≤ length day.baskets
  pub few_baskets : length day.baskets ≤ 4
  pub some_months : 1 ≤ length day.months
  pub few_months : length day.months ≤ 8
  pub some_futures : 1 ≤ length day.futures
  pub few_lines : length day.futures + length day.options ≤ 16
  pub few_held : length day.held ≤ 16
  pub orders_fit : AllByRecursion OrderFits day.orders

range : (low high n : ℕ) → within (pos low) (pos high) (pos n) ≡ true → (low ≤ n) × (n ≤ high)
range low high n e = let p = and_parts (leb low n) (leb n high) e in (leb-true low n p.0, leb-true n high p.1)

wider : (m n : ℕ) → m ≤ 16 → n ≤ m → n ≤ 16
wider m n f g = omega arith

pub ready : (day : Day) → Passes day → Ready day
ready day passes =
    let count = length (day.futures ++ day.options) in
    let a = passed_places (first_unfit (cards_of day) day.held) BadCard _ (cards_of day) passes.cards in
    let b = passed_unless (counted count (cards_of day)) WrongShape _ (cards_of day) a.1 in
    let c = and_parts _ _ b.0 in
    let d = and_parts _ _ c.0 in
    let f = and_parts _ _ d.0 in
    let g = and_parts _ _ c.1 in
    let h = and_parts _ _ g.0 in
    let families = range 1 2 (length day.families) f.0 in
    let baskets = range 1 4 (length day.baskets) f.1 in
    let months = range 1 8 (length day.months) d.1 in
    let few_months = wider 8 (length day.months) (lit≤ tt) months.1 in
    let lines = range 1 16 count h.0 in
    let futures = range 1 count (length day.futures) g.1 in
    let long = length-append day.futures day.options in
    let u = along_none _ _ _ a.0 in
    let v = along_none _ _ _ u.1 in
    let w = along_none _ _ _ v.1 in
    let x = along_none _ _ _ w.1 in
    let split = none_both _ 0 day.futures day.options x.0 in
    record {
      families = families_good day.families u.0;
      baskets = baskets_good (length day.families) day.baskets (wider 2 (length day.families) (lit≤ tt) families.1) v.0;
      months = months_good (length day.baskets) day.months (wider 4 (length day.baskets) (lit≤ tt) baskets.1) w.0;
      futures = futures_good (length day.months) day.futures few_months split.0;
      options = options_good (length day.months) (length day.futures) (0 + length day.futures) day.options few_months passes.options split.1;
      prices = passes.prices;
      cash = cash_good day.cash passes.cash;
      held = records_good count day.held day.held lines.1 x.1;
      orders = orders_good day.orders passes.orders;
      some_families = families.0;
      few_families = families.1;
      some_baskets = baskets.0;
      few_baskets = baskets.1;
      some_months = months.0;
      few_months = months.1;
      some_futures = futures.0;
      few_lines = subst (λ (n : ℕ). n ≤ 16) long lines.1;
      few_held = passes.held;
      orders_fit = passes.orders;
    }

-- ---- how long

signed_some : (n : ℤ) → InRange n → 1 ≤ length (signed_decimal n)
signed_some n p = by n (signed_decimal n) ((one_writing n).0 p)
  where
    by : (m : ℤ) (bs : List ℕ) → Writes m bs → 1 ≤ length bs
    by (pos m) bs w = w.0.some
    by (negsuc m) bs w = subst (λ (l : List ℕ). 1 ≤ length l) (sym w.1) (omega arith)

order_long : (o : Order) → OrderFits o → 35 ≤ length (outer_text (order_form o))
order_long o f =
    let a = signed_some o.line f.0 in
    let b = signed_some o.net f.1 in
    let c = signed_some o.price f.2 in
    simp length-append (omega arith)

orders_long : (os : List Order) → AllByRecursion OrderFits os → 35 * length os ≤ length (text_of (map order_form os ++ []))
orders_long [] f = omega arith
orders_long (o ∷ os) f = omega (arith, order_long o f.0, orders_long os f.1, length-append (outer_text (order_form o)) (text_of (map order_form os ++ [])))

rows_few : (half : Half) (left index : ℕ) (ps : List ℤ) → RowsFit half left index ps → length ps ≤ 17 * left
rows_few half zero index ps fit = let none = ap length fit in omega arith
rows_few half (suc left) index ps fit =
    let k = points half in
    omega (arith, points_few half, fit.0, rows_few half left (index + 1) (drop k ps) fit.2, ap length (sym (take-append-drop k ps)) ∙ length-append (take k ps) (drop k ps))

-- ---- reading it

some_ahead : {R : Type 0} (format : Format R) (codec : Codec format) (text : List ℕ) (at room : ℕ) (ys : List R) (rest : List Outer) → AllByRecursion (Good format codec) ys → 1 ≤ length ys → length ys ≤ room → AllByRecursion Proper rest → Other format.head rest → drop at text ≡ text_of (map codec.form ys ++ rest) → (u : ℕ) × (Ok (ys, u) ≡ some_at format text room at) × (drop u text ≡ text_of rest)
unfolding some_in
some_ahead format codec text at room ys rest good some few p other e =
    let read = any_ahead format codec text at room ys rest good p few other e in
    (read.0, then_ok _ ys read.0 _ _ (sym read.1) (given_yes _ _ _ _ (sym (lt-ltb 0 (length ys) (omega arith))) refl), read.2)

other_rows : (head : List ℕ) (first : ℕ) (half : Half) (left index : ℕ) (ps : List ℤ) (rest : List Outer) → same head (codes "row") ≡ false → Other head rest → Other head (row_forms first half left index ps ++ rest)
other_rows head first half zero index ps rest h o = o
other_rows head first half (suc left) index ps rest h o = h

pub half_proper : (half : Half) → Proper (grid_form half)
half_proper half = ((lit< tt, refl), (((lit< tt, refl), (count_in (half_size half) (few half), tt)), tt))
  where
    few : (h : Half) → half_size h ≤ 999999
    few One = omega arith
    few Two = omega arith
    few Four = omega arith
    few Eight = omega arith

module _ (day : Day) (r : Ready day) where
  -- what is left of the forms behind the held records, the cash, the rows, and so on
  abbrev pub f9 : List Outer
  f9 = map order_form day.orders ++ []

  abbrev pub f8 : List Outer
  f8 = map held_form day.held ++ f9

  abbrev pub f7 : List Outer
  f7 = cash_form day.cash ∷ f8

  abbrev pub f6 : List Outer
  f6 = row_forms (length day.futures) day.half (7 * length day.options) 0 day.prices ++ f7

  abbrev pub f5 : List Outer
  f5 = map option_form day.options ++ f6

  abbrev pub f4 : List Outer
  f4 = map future_form day.futures ++ f5

  abbrev pub f3 : List Outer
  f3 = map month_form day.months ++ f4

  abbrev pub f2 : List Outer
  f2 = map basket_form day.baskets ++ f3

  abbrev pub f1 : List Outer
  f1 = map family_form day.families ++ f2

  p9 : AllByRecursion Proper f9
  p9 = all_proper order_format order_codec day.orders [] r.orders tt

  p8 : AllByRecursion Proper f8
  p8 = all_proper held_format held_codec day.held f9 r.held p9

  p7 : AllByRecursion Proper f7
  p7 = (r.cash.1, p8)

  p6 : AllByRecursion Proper f6
  p6 = rows_proper (length day.futures) day.half (7 * length day.options) 0 day.prices f7 (let few = r.few_lines in omega arith) r.prices p7

  p5 : AllByRecursion Proper f5
  p5 = all_proper option_format option_codec day.options f6 r.options p6

  p4 : AllByRecursion Proper f4
  p4 = all_proper future_format future_codec day.futures f5 r.futures p5

  p3 : AllByRecursion Proper f3
  p3 = all_proper month_format month_codec day.months f4 r.months p4

  p2 : AllByRecursion Proper f2
  p2 = all_proper basket_format basket_codec day.baskets f3 r.baskets p3

  pub p1 : AllByRecursion Proper f1
  p1 = all_proper family_format family_codec day.families f2 r.families p2

  behind_options : (head : List ℕ) → same head (codes "row") ≡ false → same head (codes "cash") ≡ false → Other head f6
  behind_options head row cash = other_rows head (length day.futures) day.half (7 * length day.options) 0 day.prices f7 row cash

  behind_months : (head : List ℕ) → same head (codes "future") ≡ false → same head (codes "option") ≡ false → same head (codes "row") ≡ false → same head (codes "cash") ≡ false → Other head f4
  behind_months head future option row cash = other_map head future_form day.futures f5 (λ _. future) (other_map head option_form day.options f6 (λ _. option) (behind_options head row cash))

  module _ (text : List ℕ) where
    cards_written : (at : ℕ) → drop at text ≡ text_of f1 → (u : ℕ) × (Ok ((day.families, day.baskets, day.months), u) ≡ cards_in wanted text at) × (drop u text ≡ text_of f4)
    unfolding cards_in
    cards_written at e =
        let months-next = behind_months (codes "month") refl refl refl refl in
        let baskets-next = other_map (codes "basket") month_form day.months f4 (λ _. refl) (behind_months (codes "basket") refl refl refl refl) in
        let families-next = other_map (codes "family") basket_form day.baskets f3 (λ _. refl) (other_map (codes "family") month_form day.months f4 (λ _. refl) (behind_months (codes "family") refl refl refl refl)) in
        let a = some_ahead family_format family_codec text at 2 day.families f2 r.families r.some_families r.few_families p2 families-next e in
        let b = some_ahead basket_format basket_codec text a.0 4 day.baskets f3 r.baskets r.some_baskets r.few_baskets p3 baskets-next a.2 in
        let c = some_ahead month_format month_codec text b.0 8 day.months f4 r.months r.some_months r.few_months p4 months-next b.2 in
        (c.0, then_ok _ _ _ _ _ a.1 (then_ok _ _ _ _ _ b.1 (then_ok _ _ _ _ _ c.1 refl)), c.2)

    lines_written : (at : ℕ) → drop at text ≡ text_of f4 → (u : ℕ) × (Ok ((day.futures, day.options), u) ≡ lines_in wanted text at) × (drop u text ≡ text_of f6)
    unfolding lines_in
    lines_written at e =
        let futures-next = other_map (codes "future") option_form day.options f6 (λ _. refl) (behind_options (codes "future") refl refl) in
        let few_futures : length day.futures ≤ 16 = omega (arith, r.few_lines) in
        let few-options : length day.options ≤ 16 - length day.futures = omega (arith, r.few_lines) in
        let a = some_ahead future_format future_codec text at 16 day.futures f5 r.futures r.some_futures few_futures p5 futures-next e in
        let b = any_ahead option_format option_codec text a.0 (16 - length day.futures) day.options f6 r.options p6 few-options (behind_options (codes "option") refl refl) a.2 in
        (b.0, then_ok _ _ _ _ _ a.1 (then_ok _ _ _ _ _ (sym b.1) refl), b.2)

    contracts_written : (at : ℕ) → drop at text ≡ text_of f4 → (u : ℕ) × (Ok ((day.futures, day.options, day.prices), u) ≡ contracts_in day.half wanted text at) × (drop u text ≡ text_of f7)
    unfolding contracts_in
    contracts_written at e =
        let few : length day.prices ≤ 1785 = omega (arith, rows_few day.half (7 * length day.options) 0 day.prices r.prices, r.few_lines, r.some_futures) in
        let a = lines_written at e in
        let b = rows_written (length day.futures) day.half text a.0 1785 (7 * length day.options) day.prices f7 r.prices few p6 a.2 in
        (b.0, then_ok _ _ _ _ _ a.1 (then_ok _ _ _ _ _ (sym b.1) refl), b.2)

    book_written : (at : ℕ) → length text ≤ 65536 → drop at text ≡ text_of f8 → (u : ℕ) × (Ok ((day.held, day.orders), u) ≡ book_in wanted text at)
    unfolding book_in end_in
    book_written at short e =
        let a = any_ahead held_format held_codec text at 16 day.held f9 r.held p9 r.few_held (other_map (codes "held") order_form day.orders [] (λ _. refl) tt) e in
        let few : length day.orders ≤ 2000 = omega (arith, orders_long day.orders r.orders_fit, sym (length-drop a.0 text) ∙ ap length a.2) in
        let b = any_ahead order_format order_codec text a.0 2000 day.orders [] r.orders tt few tt a.2 in
        let ends : length text ≤ b.0 = omega (arith, sym (length-drop b.0 text) ∙ ap length b.2) in
        (b.0, then_ok _ _ _ _ _ (sym a.1) (then_ok _ _ _ _ _ (sym b.1) (then_ok _ _ _ _ _ (given_yes _ _ _ _ (sym (le-leb (length text) b.0 ends)) refl) refl)))

    pub day_written : length text ≤ 65536 → text ≡ text_of (grid_form day.half ∷ f1) → (u : ℕ) × (Ok (day, u) ≡ day_in wanted text)
    unfolding day_in
    day_written short e =
        let a = form_written grid_format grid_codec text 0 day.half f1 (tt, half_proper day.half) p1 e in
        let b = cards_written a.0 a.2 in
        let c = contracts_written b.0 b.2 in
        let d = form_written cash_format cash_codec text c.0 day.cash f8 r.cash p8 c.2 in
        let f = book_written d.0 short d.2 in
        (f.0, then_ok _ _ _ _ _ (sym a.1) (then_ok _ _ _ _ _ b.1 (then_ok _ _ _ _ _ c.1 (then_ok _ _ _ _ _ (sym d.1) (then_ok _ _ _ _ _ f.1 refl)))))
