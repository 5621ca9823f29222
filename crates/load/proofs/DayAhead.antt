-- From a day that passes the checks to what is read of its writing.
use Rattle.std.proofs.Common.{◌≡◌, ℕ, suc, ◌+◌, ◌<◌, ◌≤◌, Bool, true, false, ◌&&◌, ◌||◌, leb, List, [], ◌∷◌, ◌++◌, length, ℤ, pos, negsuc, Some, None, Option, sym, refl, ap, ◌∙◌, subst, arith, lit<}
use lib.Signed.{le_z}
use Rattle.std.specs.List.{AllByRecursion}
use Rattle.std.proofs.lemmas.Int.{ints}
use Rattle.std.proofs.lemmas.Bool.{and_parts, lt-leb}
use Rattle.terms.specs.Cards.{within, rates_fit, limits_fit, future_fits}
use Rattle.terms.specs.Judging.{failing}
use Rattle.terms.specs.declared.cards.Basket.{Basket}
use Rattle.terms.specs.declared.cards.Family.{Family}
use Rattle.terms.specs.declared.cards.Held.{Held}
use Rattle.terms.specs.declared.cards.Limits.{Limits}
use Rattle.terms.specs.declared.cards.Line.{Line}
use Rattle.terms.specs.declared.cards.Month.{Month}
use Rattle.terms.specs.declared.cards.Rates.{Rates}
use Rattle.terms.proofs.Places.{some_is_none}
use Rattle.deck.specs.Judgements.{name_fits, rule_fits, family_fits, basket_fits, month_fits, line_fits, held_fits, is_first}
use Rattle.kinds.specs.Formats.{family_format, basket_format, month_format, future_format, option_format, cash_format, held_format, order_format}
use Rattle.kinds.specs.declared.Order.{Order}
use Rattle.load.specs.Writing.{IsOption, OrderFits}
use Rattle.load.proofs.Codecs.{family_codec, basket_codec, month_codec, future_codec, option_codec, cash_codec, held_codec, order_codec}
use Rattle.load.proofs.Back.{Good}
use Rattle.load.proofs.InRange.{field_in_lem, name_in}

-- ---- what no item of a list fails

module _ {X : Type 0} (test : ℕ → X → Bool) (P : X → Type 0) (most : ℕ) (h : (k : ℕ) (x : X) → k < most → test k x ≡ true → P x) where
  none_all : (i : ℕ) (xs : List X) → i + length xs ≤ most → failing test i xs ≡ None → AllByRecursion P xs
  unfolding failing
  none_all i [] few e = tt
  none_all i (x ∷ xs) few e = by (test i x) refl e (λ f. none_all (suc i) xs (omega arith) f)
    where
      by : (b : Bool) → test i x ≡ b → ◌≡◌ {A = Option ℕ} (elim b [ true ↦ failing test (suc i) xs | false ↦ Some i ]) None → (failing test (suc i) xs ≡ None → AllByRecursion P xs) → AllByRecursion P (x ∷ xs)
      by true t f more = (h i x (omega arith) t, more f)
      by false t f more = absurd (some_is_none i f)

pub none_both : {X : Type 0} (test : ℕ → X → Bool) (i : ℕ) (xs ys : List X) → failing test i (xs ++ ys) ≡ None → (failing test i xs ≡ None) × (failing test (i + length xs) ys ≡ None)
unfolding failing
none_both test i [] ys e = (refl, subst (λ (n : ℕ). failing test n ys ≡ None) (omega arith) e)
none_both test i (x ∷ xs) ys e = by (test i x) e (λ f. none_both test (suc i) xs ys f)
  where
    next : suc i + length xs ≡ i + length (x ∷ xs)
    next = omega arith

    by : (b : Bool) → ◌≡◌ {A = Option ℕ} (elim b [ true ↦ failing test (suc i) (xs ++ ys) | false ↦ Some i ]) None → (failing test (suc i) (xs ++ ys) ≡ None → (failing test (suc i) xs ≡ None) × (failing test (suc i + length xs) ys ≡ None)) → (◌≡◌ {A = Option ℕ} (elim b [ true ↦ failing test (suc i) xs | false ↦ Some i ]) None) × (failing test (i + length (x ∷ xs)) ys ≡ None)
    by true f more = let both = more f in (both.0, subst (λ (n : ℕ). failing test n ys ≡ None) next both.1)
    by false f more = absurd (some_is_none i f)

-- ---- cards that fit can be written

family_good : (f : Family) → family_fits f ≡ true → Good family_format family_codec f
family_good f e =
    let p = and_parts (rule_fits f.rule) (within (pos 0) (pos 16) f.window) e in
    let rule = field_in_lem (pos 0) (pos 1) f.rule (omega (arith, ints)) (omega (arith, ints)) p.0 in
    let window = field_in_lem (pos 0) (pos 16) f.window (omega (arith, ints)) (omega (arith, ints)) p.1 in
    (((p.0, tt), ((p.1, tt), tt)), ((lit< tt, refl), (((lit< tt, refl), (rule, tt)), (((lit< tt, refl), (window, tt)), tt))))

basket_good : (families : ℕ) (b : Basket) → families ≤ 16 → basket_fits families b ≡ true → Good basket_format basket_codec b
basket_good families b few e =
    let p = and_parts (name_fits families b.family) (rule_fits b.rule) e in
    let family = name_in families b.family few p.0 in
    let rule = field_in_lem (pos 0) (pos 1) b.rule (omega (arith, ints)) (omega (arith, ints)) p.1 in
    (((refl, tt), ((p.1, tt), tt)), ((lit< tt, refl), (((lit< tt, refl), (family, tt)), (((lit< tt, refl), (rule, tt)), tt))))

month_good : (baskets : ℕ) (m : Month) → baskets ≤ 16 → month_fits baskets m ≡ true → Good month_format month_codec m
month_good baskets m few e = (((refl, tt), tt), ((lit< tt, refl), (((lit< tt, refl), (name_in baskets m.basket few e, tt)), tt)))

rates_in : (r : Rates) → rates_fit r ≡ true → (within (pos 1) (pos 10000) r.r1 ≡ true) × (within (pos 1) (pos 10000) r.r2 ≡ true) × (within (pos 1) (pos 10000) r.r3 ≡ true)
rates_in r e =
    let a = and_parts ((le_z (pos 1) r.r1 && le_z r.r1 r.r2) && le_z r.r2 r.r3) (le_z r.r3 (pos 10000)) e in
    let b = and_parts (le_z (pos 1) r.r1 && le_z r.r1 r.r2) (le_z r.r2 r.r3) a.0 in
    let c = and_parts (le_z (pos 1) r.r1) (le_z r.r1 r.r2) b.0 in
    by r.r1 r.r2 r.r3 c.0 c.1 b.1 a.1
  where
    by : (x y z : ℤ) → le_z (pos 1) x ≡ true → le_z x y ≡ true → le_z y z ≡ true → le_z z (pos 10000) ≡ true → (within (pos 1) (pos 10000) x ≡ true) × (within (pos 1) (pos 10000) y ≡ true) × (within (pos 1) (pos 10000) z ≡ true)
    by x y z f g h k = (grind (arith, ints), grind (arith, ints), grind (arith, ints))

limits_in : (l : Limits) → limits_fit l ≡ true → (within (pos 0) (pos 10000) l.a ≡ true) × (within (pos 0) (pos 10000) l.b ≡ true)
limits_in l e =
    let a = and_parts (le_z (pos 0) l.a && le_z l.a l.b) (le_z l.b (pos 10000)) e in
    let b = and_parts (le_z (pos 0) l.a) (le_z l.a l.b) a.0 in
    by l.a l.b b.0 b.1 a.1
  where
    by : (x y : ℤ) → le_z (pos 0) x ≡ true → le_z x y ≡ true → le_z y (pos 10000) ≡ true → (within (pos 0) (pos 10000) x ≡ true) × (within (pos 0) (pos 10000) y ≡ true)
    by x y f g h = (grind (arith, ints), grind (arith, ints))

future_good : (months : ℕ) (l : Line) → months ≤ 16 → name_fits months l.month ≡ true → future_fits l ≡ true → Good future_format future_codec l
future_good months l few name e =
    let a = and_parts (((within (pos 0) (pos 10000000) l.price && within (pos 0) (pos 10000000) l.spot) && within (pos 0) (pos 1000000) l.change) && rates_fit l.rates) (limits_fit l.limits) e in
    let b = and_parts ((within (pos 0) (pos 10000000) l.price && within (pos 0) (pos 10000000) l.spot) && within (pos 0) (pos 1000000) l.change) (rates_fit l.rates) a.0 in
    let c = and_parts (within (pos 0) (pos 10000000) l.price && within (pos 0) (pos 10000000) l.spot) (within (pos 0) (pos 1000000) l.change) b.0 in
    let d = and_parts (within (pos 0) (pos 10000000) l.price) (within (pos 0) (pos 10000000) l.spot) c.0 in
    let rates = rates_in l.rates b.1 in
    let limits = limits_in l.limits a.1 in
    let money = λ (n : ℤ) (f : within (pos 0) (pos 10000000) n ≡ true). field_in_lem (pos 0) (pos 10000000) n (omega (arith, ints)) (omega (arith, ints)) f in
    let rate = λ (n : ℤ) (f : within (pos 1) (pos 10000) n ≡ true). field_in_lem (pos 1) (pos 10000) n (omega (arith, ints)) (omega (arith, ints)) f in
    let limit = λ (n : ℤ) (f : within (pos 0) (pos 10000) n ≡ true). field_in_lem (pos 0) (pos 10000) n (omega (arith, ints)) (omega (arith, ints)) f in
    let change = field_in_lem (pos 0) (pos 1000000) l.change (omega (arith, ints)) (omega (arith, ints)) c.1 in (
      ((refl, tt), ((d.0, tt), ((d.1, tt), ((c.1, tt), ((rates.0, (rates.1, (rates.2, tt))), ((limits.0, (limits.1, tt)), tt)))))),
      (
        (lit< tt, refl),
        (
          ((lit< tt, refl), (name_in months l.month few name, tt)),
          (
            ((lit< tt, refl), (money l.price d.0, tt)),
            (
              ((lit< tt, refl), (money l.spot d.1, tt)),
              (
                ((lit< tt, refl), (change, tt)),
                (
                  ((lit< tt, refl), (rate l.rates.r1 rates.0, (rate l.rates.r2 rates.1, (rate l.rates.r3 rates.2, tt)))),
                  (
                    ((lit< tt, refl), (limit l.limits.a limits.0, (limit l.limits.b limits.1, tt))),
                    tt,
                  ),
                ),
              ),
            ),
          ),
        ),
      ),
    )

option_good : (months : ℕ) (l : Line) → months ≤ 16 → name_fits months l.month ≡ true → IsOption l → Good option_format option_codec l
option_good months l few name is = (is, ((lit< tt, refl), (((lit< tt, refl), (name_in months l.month few name, tt)), tt)))

held_good : (lines : ℕ) (h : Held) → lines ≤ 16 → name_fits lines h.line ≡ true → within (negsuc 9999) (pos 10000) h.net ≡ true → within (pos 0) (pos 10000000) h.price ≡ true → Good held_format held_codec h
held_good lines h few name net price =
    let net-in = field_in_lem (negsuc 9999) (pos 10000) h.net (omega (arith, ints)) (omega (arith, ints)) net in
    let price_in = field_in_lem (pos 0) (pos 10000000) h.price (omega (arith, ints)) (omega (arith, ints)) price in
    (((refl, tt), ((net, tt), ((price, tt), tt))), ((lit< tt, refl), (((lit< tt, refl), (name_in lines h.line few name, tt)), (((lit< tt, refl), (net-in, tt)), (((lit< tt, refl), (price_in, tt)), tt)))))

pub cash_good : (n : ℤ) → within (pos 0) (pos 100000000000000) n ≡ true → Good cash_format cash_codec n
cash_good n e = (((e, tt), tt), ((lit< tt, refl), (((lit< tt, refl), (field_in_lem (pos 0) (pos 100000000000000) n (omega (arith, ints)) (omega (arith, ints)) e, tt)), tt)))

pub orders_good : (os : List Order) → AllByRecursion OrderFits os → AllByRecursion (Good order_format order_codec) os
orders_good [] f = tt
orders_good (o ∷ os) f = ((tt, ((lit< tt, refl), (((lit< tt, refl), (f.0.0, tt)), (((lit< tt, refl), (f.0.1, tt)), (((lit< tt, refl), (f.0.2, tt)), tt))))), orders_good os f.1)

-- ---- lists of cards that fit

pub families_good : (fs : List Family) → failing (λ place. family_fits) 0 fs ≡ None → AllByRecursion (Good family_format family_codec) fs
families_good fs e = none_all (λ place. family_fits) (Good family_format family_codec) (0 + length fs) (λ _ f _ t. family_good f t) 0 fs (omega arith) e

pub baskets_good : (families : ℕ) (bs : List Basket) → families ≤ 16 → failing (λ place. basket_fits families) 0 bs ≡ None → AllByRecursion (Good basket_format basket_codec) bs
baskets_good families bs few e = none_all (λ place. basket_fits families) (Good basket_format basket_codec) (0 + length bs) (λ _ b _ t. basket_good families b few t) 0 bs (omega arith) e

pub months_good : (baskets : ℕ) (ms : List Month) → baskets ≤ 16 → failing (λ place. month_fits baskets) 0 ms ≡ None → AllByRecursion (Good month_format month_codec) ms
months_good baskets ms few e = none_all (λ place. month_fits baskets) (Good month_format month_codec) (0 + length ms) (λ _ m _ t. month_good baskets m few t) 0 ms (omega arith) e

pub futures_good : (months : ℕ) (ls : List Line) → months ≤ 16 → failing (line_fits months (length ls)) 0 ls ≡ None → AllByRecursion (Good future_format future_codec) ls
futures_good months ls few e = none_all (line_fits months (length ls)) (Good future_format future_codec) (length ls) one 0 ls (omega arith) e
  where
    one : (k : ℕ) (l : Line) → k < length ls → line_fits months (length ls) k l ≡ true → Good future_format future_codec l
    one k l less t =
        let p = and_parts (name_fits months l.month) (leb (length ls) k || future_fits l) t in
        let future : future_fits l ≡ true = sym (ap (λ b. b || future_fits l) (lt-leb (length ls) k less)) ∙ p.1 in
        future_good months l few p.0 future

pub options_good : (months futures i : ℕ) (ls : List Line) → months ≤ 16 → AllByRecursion IsOption ls → failing (line_fits months futures) i ls ≡ None → AllByRecursion (Good option_format option_codec) ls
options_good months futures i ls few are e =
    both ls are (none_all (line_fits months futures) (λ l. name_fits months l.month ≡ true) (i + length ls) (λ k l _ t. (and_parts (name_fits months l.month) (leb futures k || future_fits l) t).0) i ls (omega arith) e)
  where
    both : (ls : List Line) → AllByRecursion IsOption ls → AllByRecursion (λ l. name_fits months l.month ≡ true) ls → AllByRecursion (Good option_format option_codec) ls
    both [] f g = tt
    both (l ∷ ls) f g = (option_good months l few g.0 f.0, both ls f.1 g.1)

pub records_good : (lines : ℕ) (all hs : List Held) → lines ≤ 16 → failing (held_fits lines all) 0 hs ≡ None → AllByRecursion (Good held_format held_codec) hs
records_good lines all hs few e = none_all (held_fits lines all) (Good held_format held_codec) (0 + length hs) one 0 hs (omega arith) e
  where
    one : (k : ℕ) (h : Held) → k < 0 + length hs → held_fits lines all k h ≡ true → Good held_format held_codec h
    one k h less t =
        let p = and_parts (name_fits lines h.line && within (negsuc 9999) (pos 10000) h.net) (within (pos 0) (pos 10000000) h.price && is_first h.line all k) t in
        let q = and_parts (name_fits lines h.line) (within (negsuc 9999) (pos 10000) h.net) p.0 in
        let s = and_parts (within (pos 0) (pos 10000000) h.price) (is_first h.line all k) p.1 in
        held_good lines h few q.0 q.1 s.0
