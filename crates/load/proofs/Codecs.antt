-- Each kind of form: the numbers of a record, and that forms and records fit each other.
use Rattle.std.proofs.Common.{◌≡◌, ℕ, Bool, true, false, eqb, ℤ, pos, negsuc, is_some, Some, None, Option, sym, refl, ap}
use Rattle.std.proofs.lemmas.Bool.{eqb-true, false≢true}
use Rattle.terms.specs.Halves.{half_of, half_size}
use Rattle.terms.specs.declared.cards.Line.{Line}
use Rattle.terms.specs.declared.half.Half.{Half}
use Rattle.terms.specs.declared.half.Half.TheVariants.{One, Two, Four, Eight}
use Rattle.text.specs.Grammar.{Outer}
use Rattle.forms.specs.Judged.{Lettered}
use Rattle.kinds.specs.Filled.{half_with}
use Rattle.kinds.specs.Formats.{Format, grid_format, family_format, basket_format, month_format, future_format, option_format, cash_format, held_format, order_format}
use Rattle.load.specs.Writing.{grid_form, family_form, basket_form, month_form, future_form, option_form, cash_form, held_form, order_form, IsOption}
use Rattle.load.proofs.Written.{Numbers, AllFit, form_with, filled_by}

-- how the records of a kind are written
pub record Codec {R : Type 0} (format : Format R) : Type 1 where
  pub lettered : Lettered format.head format.fields
  pub form : R → Outer
  -- the numbers of a record that may be written
  pub numbers : R → Numbers format.fields
  pub Fits : R → Type 0
  pub written : (r : R) → form_with format (numbers r) ≡ form r
  pub back : (v : Numbers format.fields) → AllFit format.fields v → (numbers (filled_by format v) ≡ v) × Fits (filled_by format v)
  pub ahead : (r : R) → Fits r → AllFit format.fields (numbers r) × (filled_by format (numbers r) ≡ r)

abbrev pub family_codec : Codec family_format
family_codec = record {
  lettered = (refl, (refl, (refl, tt)));
  form = family_form;
  numbers = λ f. ((f.rule, tt), ((f.window, tt), tt));
  Fits = λ f. AllFit family_format.fields ((f.rule, tt), ((f.window, tt), tt));
  written = λ f. refl;
  back = λ v fit. (refl, fit);
  ahead = λ f fit. (fit, refl);
}

abbrev pub basket_codec : Codec basket_format
basket_codec = record {
  lettered = (refl, (refl, (refl, tt)));
  form = basket_form;
  numbers = λ b. ((b.family, tt), ((b.rule, tt), tt));
  Fits = λ b. AllFit basket_format.fields ((b.family, tt), ((b.rule, tt), tt));
  written = λ b. refl;
  back = λ v fit. (refl, fit);
  ahead = λ b fit. (fit, refl);
}

abbrev pub month_codec : Codec month_format
month_codec = record {
  lettered = (refl, (refl, tt));
  form = month_form;
  numbers = λ m. ((m.basket, tt), tt);
  Fits = λ m. AllFit month_format.fields ((m.basket, tt), tt);
  written = λ m. refl;
  back = λ v fit. (refl, fit);
  ahead = λ m fit. (fit, refl);
}

abbrev pub future_numbers : Line → Numbers future_format.fields
future_numbers l = ((l.month, tt), ((l.price, tt), ((l.spot, tt), ((l.change, tt), ((l.rates.r1, (l.rates.r2, (l.rates.r3, tt))), ((l.limits.a, (l.limits.b, tt)), tt))))))

abbrev pub future_codec : Codec future_format
future_codec = record {
  lettered = (refl, (refl, (refl, (refl, (refl, (refl, (refl, tt)))))));
  form = future_form;
  numbers = future_numbers;
  Fits = λ l. AllFit future_format.fields (future_numbers l);
  written = λ l. refl;
  back = λ v fit. (refl, fit);
  ahead = λ l fit. (fit, refl);
}

abbrev pub option_codec : Codec option_format
option_codec = record {
  lettered = (refl, (refl, tt));
  form = option_form;
  numbers = λ l. ((l.month, tt), tt);
  Fits = IsOption;
  written = λ l. refl;
  back = λ v fit. (refl, refl);
  ahead = λ l fit. (((refl, tt), tt), sym fit);
}

abbrev pub cash_codec : Codec cash_format
cash_codec = record {
  lettered = (refl, (refl, tt));
  form = cash_form;
  numbers = λ n. ((n, tt), tt);
  Fits = λ n. AllFit cash_format.fields ((n, tt), tt);
  written = λ n. refl;
  back = λ v fit. (refl, fit);
  ahead = λ n fit. (fit, refl);
}

abbrev pub held_codec : Codec held_format
held_codec = record {
  lettered = (refl, (refl, (refl, (refl, tt))));
  form = held_form;
  numbers = λ h. ((h.line, tt), ((h.net, tt), ((h.price, tt), tt)));
  Fits = λ h. AllFit held_format.fields ((h.line, tt), ((h.net, tt), ((h.price, tt), tt)));
  written = λ h. refl;
  back = λ v fit. (refl, fit);
  ahead = λ h fit. (fit, refl);
}

abbrev pub order_codec : Codec order_format
order_codec = record {
  lettered = (refl, (refl, (refl, (refl, tt))));
  form = order_form;
  numbers = λ o. ((o.line, tt), ((o.net, tt), ((o.price, tt), tt)));
  Fits = λ _. Unit {0};
  written = λ o. refl;
  back = λ v fit. (refl, tt);
  ahead = λ o fit. (((refl, tt), ((refl, tt), ((refl, tt), tt))), refl);
}

-- a size that a grid has is that of its half
abbrev pick : Bool → Bool → Bool → Bool → Option Half
pick a b c d = elim a [ true ↦ Some One | false ↦ elim b [ true ↦ Some Two | false ↦ elim c [ true ↦ Some Four | false ↦ elim d [ true ↦ Some Eight | false ↦ None ] ] ] ]

picked : (n : ℕ) (a b c d : Bool) → eqb n 1 ≡ a → eqb n 2 ≡ b → eqb n 4 ≡ c → eqb n 8 ≡ d → is_some (pick a b c d) ≡ true → pos (half_size (elim (pick a b c d) [ Some h ↦ h | None ↦ One ])) ≡ pos n
picked n true b c d p q r s e = ap pos (sym (eqb-true n 1 p))
picked n false true c d p q r s e = ap pos (sym (eqb-true n 2 q))
picked n false false true d p q r s e = ap pos (sym (eqb-true n 4 r))
picked n false false false true p q r s e = ap pos (sym (eqb-true n 8 s))
picked n false false false false p q r s e = absurd (false≢true e)

pub half_size_lem : (n : ℤ) → is_some (half_of n) ≡ true → pos (half_size (half_with One n)) ≡ n
half_size_lem (negsuc n) e = absurd (false≢true e)
half_size_lem (pos n) e = picked n (eqb n 1) (eqb n 2) (eqb n 4) (eqb n 8) refl refl refl refl e

pub size_half : (h : Half) → (is_some (half_of (pos (half_size h))) ≡ true) × (half_with One (pos (half_size h)) ≡ h)
size_half One = (refl, refl)
size_half Two = (refl, refl)
size_half Four = (refl, refl)
size_half Eight = (refl, refl)

abbrev pub grid_codec : Codec grid_format
grid_codec = record {
  lettered = (refl, (refl, tt));
  form = grid_form;
  numbers = λ h. ((pos (half_size h), tt), tt);
  Fits = λ _. Unit {0};
  written = λ h. refl;
  back = λ v fit. (ap (λ n. ((n, tt), tt)) (half_size_lem v.0.0 fit.0.0), tt);
  ahead = λ h fit. ((((size_half h).0, tt), tt), (size_half h).1);
}
