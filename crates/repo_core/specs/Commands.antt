-- The commands of a repository, one row for each: the word of the verb, and the statuses of the
-- replies to the command. This file also defines the status texts; `src/types.rt` defines the
-- status codes.
use Rattle.std.specs.Prelude.{ℕ, List, [], ◌∷◌, Option, find, codes, bytes_eq, ◌==◌}
use Rattle.std.specs.Option.{option_map}
use Rattle.repo_core.specs.declared.verb.Verb.{Verb}
use Rattle.repo_core.specs.declared.verb.Verb.TheVariants.{Insert, Delete, Check}
use Rattle.repo_core.specs.declared.types.TheConstants.{BAD_PARAMETERS, FULL, NOT_FOUND, OK, PENDING}

-- the cases that decide the status of a reply
pub data Case : Type 0 where
  -- at least one stored Data matches the command
  Stored : Case
  -- there is a want (a pending insert) with the Name and the CanBePrefix flag in the parameters
  Wanted : Case
  -- one more want would exceed the limits
  NoPlace : Case
  Otherwise : Case

pub record VerbRow : Type 0 where
  pub word : List ℕ
  -- cases with their statuses; the first case that applies gives the status of the reply
  pub answers : List (Case × ℕ)

abbrev pub verb_row : Verb → VerbRow
verb_row Insert = record {
  word = codes "insert";
  answers = (Stored, OK) ∷ (Wanted, PENDING) ∷ (NoPlace, FULL) ∷ (Otherwise, PENDING) ∷ [];
}
verb_row Delete = record {
  word = codes "delete";
  answers = (Stored, OK) ∷ (Wanted, OK) ∷ (Otherwise, NOT_FOUND) ∷ [];
}
verb_row Check = record {
  word = codes "check";
  answers = (Stored, OK) ∷ (Wanted, PENDING) ∷ (Otherwise, NOT_FOUND) ∷ [];
}

abbrev pub verbs : List Verb
verbs = Insert ∷ Delete ∷ Check ∷ []

-- the verb with this word, or None if there is none
abbrev pub verb_named : List ℕ → Option Verb
verb_named word = find (λ verb. bytes_eq word (verb_row verb).word) verbs

-- the texts of the statuses
abbrev pub repo_texts : List (ℕ × List ℕ)
repo_texts =
    (PENDING, codes "pending") ∷ (OK, codes "OK") ∷ (BAD_PARAMETERS, codes "bad parameters")
    ∷ (NOT_FOUND, codes "not found") ∷ (FULL, codes "repository full") ∷ []

-- the text of a status, or None if the status is not in `repo_texts`
abbrev pub repo_text_of : ℕ → Option (List ℕ)
repo_text_of status = option_map (λ row. row.1) (find (λ row. status == row.0) repo_texts)
