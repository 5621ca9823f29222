-- From a day that was read to its writing.
use Rattle.std.proofs.Common.{◌≡◌, ℕ, ◌+◌, ◌-◌, ◌*◌, ◌≤◌, Bool, true, ◌&&◌, ltb, leb, List, [], ◌∷◌, ◌++◌, map, length, drop, ℤ, pos, None, Ok, sym, refl, ap, ◌∙◌, subst, append-nil, arith, length-append}
use Rattle.std.specs.List.{AllByRecursion}
use Rattle.std.proofs.lemmas.List.{drop_all}
use Rattle.std.proofs.lemmas.Bool.{ltb-true, leb-true, le-leb, eq-eqb}
use Rattle.terms.specs.Cards.{within}
use Rattle.terms.specs.declared.cards.Basket.{Basket}
use Rattle.terms.specs.declared.cards.Family.{Family}
use Rattle.terms.specs.declared.cards.Held.{Held}
use Rattle.terms.specs.declared.cards.Line.{Line}
use Rattle.terms.specs.declared.cards.Month.{Month}
use Rattle.terms.specs.declared.half.Half.{Half}
use Rattle.terms.specs.declared.refusal.Refusal.TheVariants.{BadCard, WrongShape, WrongForm}
use Rattle.terms.proofs.Passed.{pass_unless, pass_places}
use Rattle.text.specs.Grammar.{Outer, Proper, text_of}
use Rattle.text.proofs.Readback.{ok_parts}
use Rattle.deck.specs.Judgements.{first_unfit, counted}
use Rattle.forms.specs.Reads.{given}
use Rattle.forms.specs.Rows.{rows_in}
use Rattle.forms.proofs.Written.{given_ok, then_ok_parts}
use Rattle.kinds.specs.Formats.{Format, grid_format, family_format, basket_format, month_format, future_format, option_format, cash_format, held_format, order_format}
use Rattle.kinds.specs.declared.Order.{Order}
use Rattle.load.specs.Days.{Day}
use Rattle.load.specs.Reading.{form_at, any_at, some_at, some_in, cards_in, lines_in, contracts_in, end_in, book_in, day_in}
use Rattle.load.specs.Loading.{wanted, cards_of}
use Rattle.load.specs.Writing.{grid_form, family_form, basket_form, month_form, future_form, option_form, cash_form, held_form, order_form, row_forms, forms_of, RowsFit, IsOption, OrderFits, Passes}
use Rattle.load.proofs.Codecs.{Codec, grid_codec, family_codec, basket_codec, month_codec, future_codec, option_codec, cash_codec, held_codec, order_codec}
use Rattle.load.proofs.Back.{Good, all_fit, any_back, form_read}
use Rattle.load.proofs.RowsBack.{rows_read}

-- at least one form of a kind
pub some_back : {R : Type 0} (format : Format R) (codec : Codec format) (text : List ℕ) (at room : ℕ) (fs : List Outer) (xs : List R) (u : ℕ) → AllByRecursion Proper fs → drop at text ≡ text_of fs → some_at format text room at ≡ Ok (xs, u) → (rest : List Outer) × (fs ≡ map codec.form xs ++ rest) × (1 ≤ length xs) × (length xs ≤ room) × (drop u text ≡ text_of rest) × AllByRecursion Proper rest × AllByRecursion (Good format codec) xs
unfolding some_in
some_back format codec text at room fs xs u p e h =
    let w = then_ok_parts (any_at format text room at) (λ rs q. given (ltb 0 (length rs)) (WrongForm q) (Ok (rs, q))) xs u h in
    let g = given_ok (ltb 0 (length w.0)) (WrongForm w.1) (Ok (w.0, w.1)) xs u w.3 in
    let same = ok_parts w.0 xs w.1 u g.1 in
    let is : any_at format text room at ≡ Ok (xs, u) = w.2 ∙ g.1 in
    let back = any_back format codec text at room fs xs u p e is in
    let more = ltb-true 0 (length w.0) g.0 in
    (back.0, back.1, omega (arith, more, ap length same.0), back.3, back.4, back.5, back.2)

text_none : (fs : List Outer) → text_of fs ≡ [] → fs ≡ []
text_none [] e = refl
text_none (f ∷ fs) e = let long = ap length e in absurd (omega arith)

-- ---- the parts of a file

pub record CardsRead (x : List Family × List Basket × List Month) (fs : List Outer) (text : List ℕ) (u : ℕ) : Type 0 where
  pub rest : List Outer
  pub whole : fs ≡ map family_form x.0 ++ (map basket_form x.1 ++ (map month_form x.2 ++ rest))
  pub behind : drop u text ≡ text_of rest
  pub proper : AllByRecursion Proper rest
  pub some_families : 1 ≤ length x.0
  pub few_families : length x.0 ≤ 2
  pub some_baskets : 1 ≤ length x.1
  pub few_baskets : length x.1 ≤ 4
  pub some_months : 1 ≤ length x.2
  pub few_months : length x.2 ≤ 8

pub cards_back : (text : List ℕ) (at : ℕ) (fs : List Outer) (x : List Family × List Basket × List Month) (u : ℕ) → AllByRecursion Proper fs → drop at text ≡ text_of fs → cards_in wanted text at ≡ Ok (x, u) → CardsRead x fs text u
unfolding cards_in
cards_back text at fs x u p e h =
    let a = then_ok_parts (some_at family_format text 2 at) _ x u h in
    let b = then_ok_parts (some_at basket_format text 4 a.1) _ x u a.3 in
    let c = then_ok_parts (some_at month_format text 8 b.1) _ x u b.3 in
    let is = ok_parts (a.0, b.0, c.0) x c.1 u c.3 in
    let families = some_back family_format family_codec text at 2 fs a.0 a.1 p e a.2 in
    let baskets = some_back basket_format basket_codec text a.1 4 families.0 b.0 b.1 families.5 families.4 b.2 in
    let months = some_back month_format month_codec text b.1 8 baskets.0 c.0 c.1 baskets.5 baskets.4 c.2 in
    subst (λ (y : List Family × List Basket × List Month). CardsRead y fs text u) is.0 (record {
      rest = months.0;
      whole = families.1 ∙ ap (λ l. map family_form a.0 ++ l) (baskets.1 ∙ ap (λ l. map basket_form b.0 ++ l) months.1);
      behind = ap (λ n. drop n text) (sym is.1) ∙ months.4;
      proper = months.5;
      some_families = families.2;
      few_families = families.3;
      some_baskets = baskets.2;
      few_baskets = baskets.3;
      some_months = months.2;
      few_months = months.3;
    })

pub record LinesRead (x : List Line × List Line) (fs : List Outer) (text : List ℕ) (u : ℕ) : Type 0 where
  pub rest : List Outer
  pub whole : fs ≡ map future_form x.0 ++ (map option_form x.1 ++ rest)
  pub behind : drop u text ≡ text_of rest
  pub proper : AllByRecursion Proper rest
  pub some_futures : 1 ≤ length x.0
  pub few_lines : length x.0 + length x.1 ≤ 16
  pub options : AllByRecursion IsOption x.1

pub lines_back : (text : List ℕ) (at : ℕ) (fs : List Outer) (x : List Line × List Line) (u : ℕ) → AllByRecursion Proper fs → drop at text ≡ text_of fs → lines_in wanted text at ≡ Ok (x, u) → LinesRead x fs text u
unfolding lines_in
lines_back text at fs x u p e h =
    let a = then_ok_parts (some_at future_format text 16 at) _ x u h in
    let b = then_ok_parts (any_at option_format text (16 - length a.0) a.1) _ x u a.3 in
    let is = ok_parts (a.0, b.0) x b.1 u b.3 in
    let futures = some_back future_format future_codec text at 16 fs a.0 a.1 p e a.2 in
    let options = any_back option_format option_codec text a.1 (16 - length a.0) futures.0 b.0 b.1 futures.5 futures.4 b.2 in
    subst (λ (y : List Line × List Line). LinesRead y fs text u) is.0 (record {
      rest = options.0;
      whole = futures.1 ∙ ap (λ l. map future_form a.0 ++ l) options.1;
      behind = ap (λ n. drop n text) (sym is.1) ∙ options.4;
      proper = options.5;
      some_futures = futures.2;
      few_lines = sums (length a.0) (length b.0) futures.3 options.3;
      options = all_fit option_format option_codec b.0 options.2;
    })
  where
    sums : (m n : ℕ) → m ≤ 16 → n ≤ 16 - m → m + n ≤ 16
    sums m n f g = omega arith

pub record ContractsRead (half : Half) (x : List Line × List Line × List ℤ) (fs : List Outer) (text : List ℕ) (u : ℕ) : Type 0 where
  pub rest : List Outer
  pub whole : fs ≡ map future_form x.0 ++ (map option_form x.1 ++ (row_forms (length x.0) half (7 * length x.1) 0 x.2 ++ rest))
  pub behind : drop u text ≡ text_of rest
  pub proper : AllByRecursion Proper rest
  pub some_futures : 1 ≤ length x.0
  pub few_lines : length x.0 + length x.1 ≤ 16
  pub options : AllByRecursion IsOption x.1
  pub prices : RowsFit half (7 * length x.1) 0 x.2

pub contracts_back : (half : Half) (text : List ℕ) (at : ℕ) (fs : List Outer) (x : List Line × List Line × List ℤ) (u : ℕ) → AllByRecursion Proper fs → drop at text ≡ text_of fs → contracts_in half wanted text at ≡ Ok (x, u) → ContractsRead half x fs text u
unfolding contracts_in
contracts_back half text at fs x u p e h =
    let a = then_ok_parts (lines_in wanted text at) _ x u h in
    let b = then_ok_parts (rows_in (length a.0.0) half text 1785 (7 * length a.0.1) 0 [] a.1) _ x u a.3 in
    let is = ok_parts (a.0.0, a.0.1, b.0) x b.1 u b.3 in
    let lines = lines_back text at fs a.0 a.1 p e a.2 in
    let rows = rows_read (length a.0.0) half text a.1 1785 (7 * length a.0.1) lines.rest b.0 b.1 lines.proper lines.behind b.2 in
    subst (λ (y : List Line × List Line × List ℤ). ContractsRead half y fs text u) is.0 (record {
      rest = rows.0;
      whole = lines.whole ∙ ap (λ l. map future_form a.0.0 ++ (map option_form a.0.1 ++ l)) rows.1;
      behind = ap (λ n. drop n text) (sym is.1) ∙ rows.3;
      proper = rows.4;
      some_futures = lines.some_futures;
      few_lines = lines.few_lines;
      options = lines.options;
      prices = rows.2;
    })

record BookRead (x : List Held × List Order) (fs : List Outer) : Type 0 where
  pub whole : fs ≡ map held_form x.0 ++ map order_form x.1
  pub few_held : length x.0 ≤ 16
  pub orders : AllByRecursion OrderFits x.1

orders_fit : (os : List Order) → AllByRecursion (Good order_format order_codec) os → AllByRecursion OrderFits os
orders_fit [] g = tt
orders_fit (o ∷ os) g = let inners = g.0.1.1 in ((inners.0.1.0, inners.1.0.1.0, inners.1.1.0.1.0), orders_fit os g.1)

book_back : (text : List ℕ) (at : ℕ) (fs : List Outer) (x : List Held × List Order) (u : ℕ) → AllByRecursion Proper fs → drop at text ≡ text_of fs → book_in wanted text at ≡ Ok (x, u) → BookRead x fs
unfolding book_in end_in
book_back text at fs x u p e h =
    let a = then_ok_parts (any_at held_format text 16 at) _ x u h in
    let b = then_ok_parts (any_at order_format text 2000 a.1) _ x u a.3 in
    let c = then_ok_parts (end_in text b.1) _ x u b.3 in
    let is = ok_parts (a.0, b.0) x c.1 u c.3 in
    let g = given_ok (leb (length text) b.1) (WrongForm b.1) (Ok (tt, b.1)) c.0 c.1 c.2 in
    let held = any_back held_format held_codec text at 16 fs a.0 a.1 p e a.2 in
    let orders = any_back order_format order_codec text a.1 2000 held.0 b.0 b.1 held.5 held.4 b.2 in
    let none = text_none orders.0 (sym orders.4 ∙ drop_all b.1 text (leb-true (length text) b.1 g.0)) in
    subst (λ (y : List Held × List Order). BookRead y fs) is.0 (record {
      whole = held.1 ∙ ap (λ l. map held_form a.0 ++ l) (orders.1 ∙ ap (λ l. map order_form b.0 ++ l) none ∙ append-nil (map order_form b.0));
      few_held = held.3;
      orders = orders_fit b.0 orders.2;
    })

-- ---- the whole

pub record DayRead (day : Day) (fs : List Outer) : Type 0 where
  pub whole : fs ≡ forms_of day
  pub some_families : 1 ≤ length day.families
  pub few_families : length day.families ≤ 2
  pub some_baskets : 1 ≤ length day.baskets
  pub few_baskets : length day.baskets ≤ 4
  pub some_months : 1 ≤ length day.months
  pub few_months : length day.months ≤ 8
  pub some_futures : 1 ≤ length day.futures
  pub few_lines : length day.futures + length day.options ≤ 16
  pub options : AllByRecursion IsOption day.options
  pub prices : RowsFit day.half (7 * length day.options) 0 day.prices
  pub cash : within (pos 0) (pos 100000000000000) day.cash ≡ true
  pub few_held : length day.held ≤ 16
  pub orders : AllByRecursion OrderFits day.orders

pub day_read : (text : List ℕ) (fs : List Outer) (day : Day) (end : ℕ) → AllByRecursion Proper fs → text ≡ text_of fs → day_in wanted text ≡ Ok (day, end) → DayRead day fs
unfolding day_in
day_read text fs day end p e h =
    let a = then_ok_parts (form_at grid_format text 0) _ day end h in
    let b = then_ok_parts (cards_in wanted text a.1) _ day end a.3 in
    let c = then_ok_parts (contracts_in a.0 wanted text b.1) _ day end b.3 in
    let d = then_ok_parts (form_at cash_format text c.1) _ day end c.3 in
    let f = then_ok_parts (book_in wanted text d.1) _ day end d.3 in
    let is = (ok_parts _ day f.1 end f.3).0 in
    let grid = form_read grid_format grid_codec text 0 fs a.0 a.1 p e a.2 in
    let cards = cards_back text a.1 grid.0 b.0 b.1 grid.4 grid.3 b.2 in
    let contracts = contracts_back a.0 text b.1 cards.rest c.0 c.1 cards.proper cards.behind c.2 in
    let cash = form_read cash_format cash_codec text c.1 contracts.rest d.0 d.1 contracts.proper contracts.behind d.2 in
    let book = book_back text d.1 cash.0 f.0 f.1 cash.4 cash.3 f.2 in
    subst (λ (x : Day). DayRead x fs) is (record {
      whole =
          grid.1
          ∙ ap (λ l. grid_form a.0 ∷ l) (cards.whole
          ∙ ap (λ l. map family_form b.0.0 ++ (map basket_form b.0.1 ++ (map month_form b.0.2 ++ l))) (contracts.whole
          ∙ ap (λ l. map future_form c.0.0 ++ (map option_form c.0.1 ++ (row_forms (length c.0.0) a.0 (7 * length c.0.1) 0 c.0.2 ++ l))) (cash.1
          ∙ ap (λ l. cash_form d.0 ∷ l) book.whole)));
      some_families = cards.some_families;
      few_families = cards.few_families;
      some_baskets = cards.some_baskets;
      few_baskets = cards.few_baskets;
      some_months = cards.some_months;
      few_months = cards.few_months;
      some_futures = contracts.some_futures;
      few_lines = contracts.few_lines;
      options = contracts.options;
      prices = contracts.prices;
      cash = cash.2.0.0.0;
      few_held = book.few_held;
      orders = book.orders;
    })

-- ---- the checks

both : (a b : Bool) → a ≡ true → b ≡ true → (a && b) ≡ true
both a b e f = ap (λ t. t && b) e ∙ f

count_within : (low high n : ℕ) → low ≤ n → n ≤ high → within (pos low) (pos high) (pos n) ≡ true
count_within low high n e f = both (leb low n) (leb n high) (le-leb low n e) (le-leb n high f)

pub day_passes : (day : Day) (fs : List Outer) → DayRead day fs → first_unfit (cards_of day) day.held ≡ None → Passes day
day_passes day fs r fit = record {
  cards = pass_places _ (first_unfit (cards_of day) day.held) BadCard fit ∙ pass_unless _ (counted (length (day.futures ++ day.options)) (cards_of day)) WrongShape counts;
  options = r.options;
  prices = r.prices;
  cash = r.cash;
  held = r.few_held;
  orders = r.orders;
}
  where
    counts : counted (length (day.futures ++ day.options)) (cards_of day) ≡ true
    counts =
        let long = length-append day.futures day.options in
        both _ _
        (both _ _ (both _ _ (count_within 1 2 (length day.families) r.some_families r.few_families) (count_within 1 4 (length day.baskets) r.some_baskets r.few_baskets)) (count_within 1 8 (length day.months) r.some_months r.few_months))
        (both _ _ (both _ _ (count_within 1 16 (length (day.futures ++ day.options)) (omega (arith, long, r.some_futures)) (omega (arith, long, r.few_lines))) (eq-eqb (length (day.futures ++ day.options)) (length (day.futures ++ day.options)) refl)) (count_within 1 (length (day.futures ++ day.options)) (length day.futures) r.some_futures (omega (arith, long))))
