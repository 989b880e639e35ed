-- Lengths of elements and replies, and the texts of statuses.
use Rattle.std.proofs.Common.{◌≡◌, ℕ, ◌+◌, ◌≤◌, Bool, true, false, cond, List, [], ◌∷◌, ◌++◌, length, refl, subst, arith, eqb}
use Rattle.std.specs.Prelude.{Option, Some, None, IsSome, find}
use Rattle.std.specs.List.{AllByRecursion}
use Rattle.std.specs.Option.{option_map}
use Rattle.std.proofs.lemmas.List.{length-append}
use Rattle.ndn_tlv.specs.Number.{shortest_nni}
use Rattle.ndn_tlv.specs.Element.{element}
use Rattle.ndn_tlv.proofs.Lengths.{element_fits, number_fits}
use Rattle.repo_core.specs.declared.verb.Verb.TheVariants.{Insert, Delete, Check}
use Rattle.repo_core.specs.Commands.{Case, verb_row, repo_text_of, repo_texts}
use Rattle.repo_core.specs.Reading.{RepoCommand}
use Rattle.repo_core.specs.Repo.{Held, first_case_status, holds, reply_to}
use Rattle.repo_core.specs.Writing.{repo_response}

pub reply_is_bounded : (status count : ℕ) (text : List ℕ) → length (repo_response status text count) ≤ length text + 40
reply_is_bounded status count text =
    let code = element (208, shortest_nni status) in
    let words = element (103, text) in
    let number = element (132, shortest_nni count) in
    omega (
      arith,
      element_fits 207 (code ++ (words ++ (number ++ []))) (omega arith),
      length-append code (words ++ (number ++ [])),
      length-append words (number ++ []),
      length-append number [],
      number_fits 208 status (omega arith),
      element_fits 103 text (omega arith),
      number_fits 132 count (omega arith),
    )

found_fits : (status : ℕ) (text : List ℕ) (rows : List (ℕ × List ℕ)) → AllByRecursion (λ row. length row.1 ≤ 15) rows → option_map (λ row. row.1) (find (λ row. eqb status row.0) rows) ≡ Some text → length text ≤ 15
found_fits status text [] all e = absurd cc
found_fits status text (row ∷ rows) all e = by (eqb status row.0) e (λ rest. found_fits status text rows all.1 rest)
  where
    by : (b : Bool) → option_map (λ row. row.1) (cond b (Some row) (find (λ row. eqb status row.0) rows)) ≡ Some text
        → (option_map (λ row. row.1) (find (λ row. eqb status row.0) rows) ≡ Some text → length text ≤ 15) → length text ≤ 15
    by true e again = let same : row.1 ≡ text = cc in subst (λ (t : List ℕ). length t ≤ 15) same all.0
    by false e again = again e

pub known_is_bounded : (status count : ℕ) (text : List ℕ) → repo_text_of status ≡ Some text → length (repo_response status text count) ≤ 55
known_is_bounded status count text e =
    let few = found_fits status text repo_texts (omega arith, (omega arith, (omega arith, (omega arith, (omega arith, tt))))) e in
    omega (arith, few, reply_is_bounded status count text)

module _ (s : Held) (c : RepoCommand) where
  case_has_text : (rows : List (Case × ℕ)) → AllByRecursion (λ row. IsSome (repo_text_of row.1)) rows → IsSome (repo_text_of (first_case_status s c rows))
  case_has_text [] all = refl
  case_has_text (row ∷ rows) all = by (holds s c row.0) (case_has_text rows all.1)
    where
      by : (b : Bool) → IsSome (repo_text_of (first_case_status s c rows)) → IsSome (repo_text_of (cond b row.1 (first_case_status s c rows)))
      by true again = all.0
      by false again = again

  command_has_text : IsSome (repo_text_of (first_case_status s c (verb_row c.verb).answers))
  command_has_text =
      elim c.verb as (λ v. IsSome (repo_text_of (first_case_status s c (verb_row v).answers))) [
        | Insert ↦ case_has_text (verb_row Insert).answers (refl, (refl, (refl, (refl, tt))))
        | Delete ↦ case_has_text (verb_row Delete).answers (refl, (refl, (refl, tt)))
        | Check ↦ case_has_text (verb_row Check).answers (refl, (refl, (refl, tt)))
      ]

pub reply_has_text : (s : Held) (o : Option RepoCommand) → IsSome (repo_text_of (reply_to s o).status)
reply_has_text s None = refl
reply_has_text s (Some c) = command_has_text s c
