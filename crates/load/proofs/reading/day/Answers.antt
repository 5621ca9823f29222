use Rattle.std.proofs.Common.{refl, ap, ◌∙◌, w64, SFits, rules}
use Rattle.std.proofs.lemmas.Int.{to_z-of_z}
use Rattle.forms.proofs.Told.{then_ok, then_err}
use Rattle.kinds.specs.Formats.{grid_format, cash_format}
use Rattle.load.specs.Days.{contents_of, lengths_of}
use Rattle.load.specs.Reading.{form_at, cards_in, lines_in, contracts_in, book_in, day_in, with_contracts, with_book}
use Rattle.load.proofs.Parts.{read_yes, read_no, day_ok, day_err}
use Rattle.load.proofs.reading.day.Goals as goal

pub returns-in_err-half : goal.returns-in_err-half
unfolding day_in lines_in contracts_in book_in
returns-in_err-half c =
    let started = c.read_from-reader.ensures in
    let first = c.in_err-half.ensures in
    let half = first.answer ∙ (λ i. form_at grid_format (started.0 i) (started.1 i)) in
    record { kept = day_err _ _ _ _ _ c.from_residual.ensures.1 (then_err _ _ _ half); long = refl }

pub returns-in_err-families : goal.returns-in_err-families
unfolding day_in lines_in contracts_in book_in
returns-in_err-families c =
    let started = c.read_from-reader.ensures in
    let first = c.in_ok-half.ensures in
    let half = first.answer ∙ (λ i. form_at grid_format (started.0 i) (started.1 i)) in
    let same-1 = first.same ∙ started.0 in
    let second = c.in_err-families.ensures in
    let cards = read_no _ _ _ _ _ _ _ second.answer in
    let read-cards = cards ∙ ap (λ t. cards_in (lengths_of (contents_of c.args.lists.now)) t c.form.new.self.at) same-1 in
    record { kept = day_err _ _ _ _ _ c.from_residual-in_err-families.ensures.1 (then_ok _ _ _ _ _ half (then_err _ _ _ read-cards)); long = second.long }

pub returns-in_err-futures : goal.returns-in_err-futures
unfolding day_in lines_in contracts_in book_in
returns-in_err-futures c =
    let started = c.read_from-reader.ensures in
    let first = c.in_ok-half.ensures in
    let half = first.answer ∙ (λ i. form_at grid_format (started.0 i) (started.1 i)) in
    let same-1 = first.same ∙ started.0 in
    let second = c.in_ok-families.ensures in
    let cards = read_yes _ _ _ _ _ _ _ second.answer in
    let read-cards = cards.1 ∙ ap (λ t. cards_in (lengths_of (contents_of c.args.lists.now)) t c.form.new.self.at) same-1 in
    let same-2 = second.same ∙ same-1 in
    let third = c.in_err-futures.ensures in
    let contracts = read_no _ _ _ _ _ _ _ third.answer in
    let read-contracts = contracts ∙ (λ i. contracts_in c.in_ok-half.half (lengths_of (cards.3 i)) (same-2 i) c.cards.new.reader.at) in
    record { kept = day_err _ _ _ _ _ c.from_residual-in_err-futures.ensures.1 (then_ok _ _ _ _ _ half (then_ok _ _ _ _ _ read-cards (then_err _ _ _ read-contracts))); long = third.long ∙ second.long }

pub returns-in_err-cash : goal.returns-in_err-cash
unfolding day_in lines_in contracts_in book_in
returns-in_err-cash c =
    let started = c.read_from-reader.ensures in
    let first = c.in_ok-half.ensures in
    let half = first.answer ∙ (λ i. form_at grid_format (started.0 i) (started.1 i)) in
    let same-1 = first.same ∙ started.0 in
    let second = c.in_ok-families.ensures in
    let cards = read_yes _ _ _ _ _ _ _ second.answer in
    let read-cards = cards.1 ∙ ap (λ t. cards_in (lengths_of (contents_of c.args.lists.now)) t c.form.new.self.at) same-1 in
    let same-2 = second.same ∙ same-1 in
    let third = c.in_ok-futures.ensures in
    let contracts = read_yes _ _ _ _ _ _ _ third.answer in
    let read-contracts = contracts.1 ∙ (λ i. contracts_in c.in_ok-half.half (lengths_of (cards.3 i)) (same-2 i) c.cards.new.reader.at) in
    let same-3 = third.same ∙ same-2 in
    let fourth = c.in_err-cash.ensures in
    let cash = fourth.answer ∙ ap (λ t. form_at cash_format t c.contracts.new.reader.at) same-3 in
    record { kept = day_err _ _ _ _ _ c.from_residual-in_err-cash.ensures.1 (then_ok _ _ _ _ _ half (then_ok _ _ _ _ _ read-cards (then_ok _ _ _ _ _ read-contracts (then_err _ _ _ cash)))); long = third.long ∙ second.long }

pub returns-in_err-held : goal.returns-in_err-held
unfolding day_in lines_in contracts_in book_in
returns-in_err-held c =
    let started = c.read_from-reader.ensures in
    let first = c.in_ok-half.ensures in
    let half = first.answer ∙ (λ i. form_at grid_format (started.0 i) (started.1 i)) in
    let same-1 = first.same ∙ started.0 in
    let second = c.in_ok-families.ensures in
    let cards = read_yes _ _ _ _ _ _ _ second.answer in
    let read-cards = cards.1 ∙ ap (λ t. cards_in (lengths_of (contents_of c.args.lists.now)) t c.form.new.self.at) same-1 in
    let same-2 = second.same ∙ same-1 in
    let third = c.in_ok-futures.ensures in
    let contracts = read_yes _ _ _ _ _ _ _ third.answer in
    let read-contracts = contracts.1 ∙ (λ i. contracts_in c.in_ok-half.half (lengths_of (cards.3 i)) (same-2 i) c.cards.new.reader.at) in
    let same-3 = third.same ∙ same-2 in
    let fourth = c.in_ok-cash.ensures in
    let cash = fourth.answer ∙ ap (λ t. form_at cash_format t c.contracts.new.reader.at) same-3 in
    let same-4 = fourth.same ∙ same-3 in
    let contents = contracts.3 ∙ ap (with_contracts contracts.0) cards.3 in
    let fifth = c.in_err-held.ensures in
    let book = read_no _ _ _ _ _ _ _ fifth.answer in
    let read-book = book ∙ (λ i. book_in (lengths_of (contents i)) (same-4 i) c.form-2.new.self.at) in
    record { kept = day_err _ _ _ _ _ c.from_residual-in_err-held.ensures.1 (then_ok _ _ _ _ _ half (then_ok _ _ _ _ _ read-cards (then_ok _ _ _ _ _ read-contracts (then_ok _ _ _ _ _ cash (then_err _ _ _ read-book))))); long = fifth.long ∙ third.long ∙ second.long }

pub returns : goal.returns
unfolding day_in lines_in contracts_in book_in
returns c =
    let started = c.read_from-reader.ensures in
    let first = c.in_ok-half.ensures in
    let half = first.answer ∙ (λ i. form_at grid_format (started.0 i) (started.1 i)) in
    let same-1 = first.same ∙ started.0 in
    let second = c.in_ok-families.ensures in
    let cards = read_yes _ _ _ _ _ _ _ second.answer in
    let read-cards = cards.1 ∙ ap (λ t. cards_in (lengths_of (contents_of c.args.lists.now)) t c.form.new.self.at) same-1 in
    let same-2 = second.same ∙ same-1 in
    let third = c.in_ok-futures.ensures in
    let contracts = read_yes _ _ _ _ _ _ _ third.answer in
    let read-contracts = contracts.1 ∙ (λ i. contracts_in c.in_ok-half.half (lengths_of (cards.3 i)) (same-2 i) c.cards.new.reader.at) in
    let same-3 = third.same ∙ same-2 in
    let fourth = c.in_ok-cash.ensures in
    let cash = fourth.answer ∙ ap (λ t. form_at cash_format t c.contracts.new.reader.at) same-3 in
    let same-4 = fourth.same ∙ same-3 in
    let contents = contracts.3 ∙ ap (with_contracts contracts.0) cards.3 in
    let fifth = c.in_ok-held.ensures in
    let book = read_yes _ _ _ _ _ _ _ fifth.answer in
    let read-book = book.1 ∙ (λ i. book_in (lengths_of (contents i)) (same-4 i) c.form-2.new.self.at) in
    let fits : SFits w64 c.in_ok-cash.cash = search rules in
    let whole = book.3 ∙ ap (with_book book.0) contents in
    let kept = day_ok _ _ _ _ _ _
    (then_ok _ _ _ _ _ half (then_ok _ _ _ _ _ read-cards (then_ok _ _ _ _ _ read-contracts (then_ok _ _ _ _ _ cash (then_ok _ _ _ _ _ read-book refl)))))
    (λ i. record {
      half = c.in_ok-half.half;
      cash = to_z-of_z w64 c.in_ok-cash.cash fits i;
      families = (cards.2 i).0;
      baskets = (cards.2 i).1;
      months = (cards.2 i).2;
      futures = (contracts.2 i).0;
      options = (contracts.2 i).1;
      prices = (contracts.2 i).2;
      held = (book.2 i).0;
      orders = (book.2 i).1;
    })
    whole in
    record { kept = kept; long = fifth.long ∙ third.long ∙ second.long }
