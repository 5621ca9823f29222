-- What a step of the reader does: it answers what stands at its place, and moves behind it in the same text.
use Rattle.std.specs.Prelude.{◌≡◌, ℕ, List, Ok, Err, Result}
use Rattle.terms.specs.declared.refusal.Refusal.{Refusal}
use Rattle.forms.specs.Reads.{Told, told, Listed}
use Rattle.forms.specs.declared.reader.Reader.{Reader}

-- a step that answers what `reads` finds in a text at a place
pub record Moves {X : Type 0} (reads : List ℕ → ℕ → Told X) (before after : Reader) (result : Result X Refusal) : Type 0 where
  pub answer : told result after.at ≡ reads before.text.now before.at
  pub same : after.text.now ≡ before.text.now

-- an answer, with the list that was filled
abbrev pub holding : {X R : Type 0} → Result X Refusal → List R → Result (List R) Refusal
holding (Ok x) xs = Ok xs
holding (Err e) xs = Err e

-- a step that fills a list from its start with what `reads` finds, and answers how many records that is
pub record Fills {R : Type 0} (reads : List ℕ → ℕ → Told (List R)) (before after : Reader) (result : Result ℕ Refusal) (list filled : List R) : Type 0 where
  pub answer : Listed (reads before.text.now before.at) result after.at list filled
  pub same : after.text.now ≡ before.text.now
