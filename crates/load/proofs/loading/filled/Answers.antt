use Rattle.std.proofs.Common.{sym, refl, ap, ◌∙◌, subst, arith}
use Rattle.terms.specs.Checks.{decided}
use Rattle.load.specs.declared.lists.Lengths.{Lengths}
use Rattle.load.specs.declared.loading.Loaded.{Loaded}
use Rattle.load.specs.Days.{Contents, contents_of, lengths_of}
use Rattle.load.specs.Reading.{with_day}
use Rattle.load.specs.Loading.{list_checks, card_checks}
use Rattle.load.specs.Used.{Inside, used_checks}
use Rattle.load.proofs.Whole.{lengths_are, refused_lists, refused_text, refused_day, judged_day, kept_yes, kept_no, keeps, keeps_no, in_use, checks_used, decided_yes, decided_no}
use Rattle.load.proofs.loading.filled.Goals as goal

pub day-requires : goal.day-requires
day-requires c =
    let known = lengths_are _ (sym c.in_ok-lists_fit.ensures) in
    let lines = ap (λ (l : Lengths). l.lines) (sym c.lengths.ensures ∙ known) in
    omega (arith, lines)

pub cards_fit-requires : goal.cards_fit-requires
cards_fit-requires c =
    let day = kept_yes _ _ _ _ c.in_ok-loaded.ensures.kept in
    subst (λ (l : Contents). Inside c.in_ok-loaded.loaded l) (sym day.3) (subst (λ (u : Loaded). Inside u (with_day day.0 (contents_of c.args.lists.now))) (sym day.2) (in_use day.0 (contents_of c.args.lists.now)))

pub returns-in_err-lists_fit : goal.returns-in_err-lists_fit
returns-in_err-lists_fit c =
    let before = contents_of c.args.lists.now in
    let given = lengths_of before in
    let text = c.args.text.now in
    let lists = c.in_err-lists_fit.ensures ∙ ap (λ l. decided {X = Unit {0}} (list_checks l) tt) c.lengths.ensures in
    record { kept = keeps_no before before _ _ _ c.from_residual.ensures.1 (refused_lists given text _ lists); long = refl }

pub returns-in_err-text_fits : goal.returns-in_err-text_fits
returns-in_err-text_fits c =
    let before = contents_of c.args.lists.now in
    let given = lengths_of before in
    let text = c.args.text.now in
    let lists = c.in_ok-lists_fit.ensures ∙ ap (λ l. decided {X = Unit {0}} (list_checks l) tt) c.lengths.ensures in
    record { kept = keeps_no before before _ _ _ c.from_residual-in_err-text_fits.ensures.1 (refused_text given text lists _ c.in_err-text_fits.ensures); long = refl }

pub returns-in_err-loaded : goal.returns-in_err-loaded
returns-in_err-loaded c =
    let before = contents_of c.args.lists.now in
    let given = lengths_of before in
    let text = c.args.text.now in
    let lists = c.in_ok-lists_fit.ensures ∙ ap (λ l. decided {X = Unit {0}} (list_checks l) tt) c.lengths.ensures in
    record { kept = keeps_no before (contents_of c.day.new.lists) _ _ _ c.from_residual-in_err-loaded.ensures.1 (refused_day given text lists c.in_ok-text_fits.ensures _ (kept_no _ _ _ _ c.in_err-loaded.ensures.kept)); long = c.in_err-loaded.ensures.long }

pub returns-in_err-cards_fit : goal.returns-in_err-cards_fit
returns-in_err-cards_fit c =
    let before = contents_of c.args.lists.now in
    let given = lengths_of before in
    let text = c.args.text.now in
    let lists = c.in_ok-lists_fit.ensures ∙ ap (λ l. decided {X = Unit {0}} (list_checks l) tt) c.lengths.ensures in
    let day = kept_yes _ _ _ _ c.in_ok-loaded.ensures.kept in
    let checks = (λ i. used_checks (day.2 i) (day.3 i)) ∙ checks_used day.0 before in
    let unfit = c.in_err-cards_fit.ensures ∙ ap (λ l. decided {X = Unit {0}} l tt) checks in
    record { kept = keeps_no before (contents_of c.day.new.lists) _ _ _ c.from_residual-in_err-cards_fit.ensures.1 (decided_no (card_checks day.0) day.0 _ unfit ∙ judged_day given text lists c.in_ok-text_fits.ensures day.0 day.1); long = c.in_ok-loaded.ensures.long }

pub returns : goal.returns
returns c =
    let before = contents_of c.args.lists.now in
    let given = lengths_of before in
    let text = c.args.text.now in
    let lists = c.in_ok-lists_fit.ensures ∙ ap (λ l. decided {X = Unit {0}} (list_checks l) tt) c.lengths.ensures in
    let day = kept_yes _ _ _ _ c.in_ok-loaded.ensures.kept in
    let checks = (λ i. used_checks (day.2 i) (day.3 i)) ∙ checks_used day.0 before in
    let fit = c.in_ok-cards_fit.ensures ∙ ap (λ l. decided {X = Unit {0}} l tt) checks in
    record { kept = keeps before (contents_of c.day.new.lists) _ day.0 _ (decided_yes (card_checks day.0) day.0 fit ∙ judged_day given text lists c.in_ok-text_fits.ensures day.0 day.1) day.2 day.3; long = c.in_ok-loaded.ensures.long }
