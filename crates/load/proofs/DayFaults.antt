-- Of the forms of a well-formed text, read in their order, only forms and numbers are refused.
use Rattle.std.proofs.Common.{◌≡◌, ℕ, ◌-◌, ◌*◌, ltb, leb, List, [], length, drop, sym, subst}
use Rattle.std.specs.List.{AllByRecursion}
use Rattle.terms.specs.declared.half.Half.{Half}
use Rattle.terms.specs.declared.refusal.Refusal.TheVariants.{WrongForm}
use Rattle.text.specs.Grammar.{Outer, Proper, text_of}
use Rattle.forms.proofs.Written.{reads_forms, reads_lists}
use Rattle.forms.proofs.WrittenRows.{reads_rows}
use Rattle.kinds.specs.Formats.{Format, grid_format, family_format, basket_format, month_format, future_format, option_format, cash_format, held_format, order_format}
use Rattle.load.specs.Reading.{form_at, any_at, some_at, some_in, cards_in, lines_in, contracts_in, end_in, book_in, day_in}
use Rattle.load.specs.Loading.{wanted}
use Rattle.load.proofs.Codecs.{Codec, grid_codec, family_codec, basket_codec, month_codec, future_codec, option_codec, cash_codec, held_codec, order_codec}
use Rattle.load.proofs.Back.{any_back, form_read}
use Rattle.load.proofs.DayBack.{some_back, cards_back, lines_back, contracts_back}
use Rattle.load.proofs.Faults.{Formal, ok_formal, given_formal, then_formal, wrong, next_formal, list_formal, rows_formal}

module _ {R : Type 0} (format : Format R) (codec : Codec format) (text : List ℕ) (at : ℕ) (fs : List Outer) (p : AllByRecursion Proper fs) (e : drop at text ≡ text_of fs) where
  form_formal : Formal (form_at format text at)
  form_formal = subst Formal (sym (reads_forms format.head format.fields format.empty format.fill codec.lettered fs text at p e)) (next_formal format.head format.fields format.empty format.fill fs at)

  any_formal : (room : ℕ) → Formal (any_at format text room at)
  any_formal room = subst Formal (sym (reads_lists format.head format.fields format.empty format.fill codec.lettered fs text room at [] p e)) (list_formal format.head format.fields format.empty format.fill room [] fs at)

  some_formal : (room : ℕ) → Formal (some_at format text room at)
  unfolding some_in
  some_formal room = then_formal _ _ (any_formal room) (λ rs q _. given_formal (ltb 0 (length rs)) (WrongForm q) _ (wrong q) (ok_formal rs q))

module _ (text : List ℕ) where
  cards_formal : (at : ℕ) (fs : List Outer) → AllByRecursion Proper fs → drop at text ≡ text_of fs → Formal (cards_in wanted text at)
  unfolding cards_in
  cards_formal at fs p e =
      then_formal _ _ (some_formal family_format family_codec text at fs p e 2) (λ xs q x.
      let families = some_back family_format family_codec text at 2 fs xs q p e x in
      then_formal _ _ (some_formal basket_format basket_codec text q families.0 families.5 families.4 4) (λ ys u y.
      let baskets = some_back basket_format basket_codec text q 4 families.0 ys u families.5 families.4 y in
      then_formal _ _ (some_formal month_format month_codec text u baskets.0 baskets.5 baskets.4 8) (λ zs v _. ok_formal (xs, ys, zs) v)))

  lines_formal : (at : ℕ) (fs : List Outer) → AllByRecursion Proper fs → drop at text ≡ text_of fs → Formal (lines_in wanted text at)
  unfolding lines_in
  lines_formal at fs p e =
      then_formal _ _ (some_formal future_format future_codec text at fs p e 16) (λ xs q x.
      let futures = some_back future_format future_codec text at 16 fs xs q p e x in
      then_formal _ _ (any_formal option_format option_codec text q futures.0 futures.5 futures.4 (16 - length xs)) (λ ys u _. ok_formal (xs, ys) u))

  contracts_formal : (half : Half) (at : ℕ) (fs : List Outer) → AllByRecursion Proper fs → drop at text ≡ text_of fs → Formal (contracts_in half wanted text at)
  unfolding contracts_in
  contracts_formal half at fs p e =
      then_formal _ _ (lines_formal at fs p e) (λ x q read.
      let lines = lines_back text at fs x q p e read in
      let rows = subst Formal (sym (reads_rows (length x.0) half lines.rest text 1785 (7 * length x.1) 0 [] q lines.proper lines.behind)) (rows_formal (length x.0) half 1785 (7 * length x.1) 0 [] lines.rest q) in
      then_formal _ _ rows (λ ps u _. ok_formal (x.0, x.1, ps) u))

  book_formal : (at : ℕ) (fs : List Outer) → AllByRecursion Proper fs → drop at text ≡ text_of fs → Formal (book_in wanted text at)
  unfolding book_in end_in
  book_formal at fs p e =
      then_formal _ _ (any_formal held_format held_codec text at fs p e 16) (λ xs q x.
      let held = any_back held_format held_codec text at 16 fs xs q p e x in
      then_formal _ _ (any_formal order_format order_codec text q held.0 held.5 held.4 2000) (λ ys u _.
      then_formal _ _ (given_formal (leb (length text) u) (WrongForm u) _ (wrong u) (ok_formal tt u)) (λ _ v _. ok_formal (xs, ys) v)))

  pub day_formal : (fs : List Outer) → AllByRecursion Proper fs → text ≡ text_of fs → Formal (day_in wanted text)
  unfolding day_in
  day_formal fs p e =
      then_formal _ _ (form_formal grid_format grid_codec text 0 fs p e) (λ half q a.
      let grid = form_read grid_format grid_codec text 0 fs half q p e a in
      then_formal _ _ (cards_formal q grid.0 grid.4 grid.3) (λ x u b.
      let cards = cards_back text q grid.0 x u grid.4 grid.3 b in
      then_formal _ _ (contracts_formal half u cards.rest cards.proper cards.behind) (λ y v c.
      let contracts = contracts_back half text u cards.rest y v cards.proper cards.behind c in
      then_formal _ _ (form_formal cash_format cash_codec text v contracts.rest contracts.proper contracts.behind) (λ amount w d.
      let cash = form_read cash_format cash_codec text v contracts.rest amount w contracts.proper contracts.behind d in
      then_formal _ _ (book_formal w cash.0 cash.4 cash.3) (λ z end _. ok_formal _ end)))))
