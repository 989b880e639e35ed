-- The last line of new rules in a text.
use Rattle.std.proofs.Common.{◌≡◌, inl, inr, ℕ, List, [], ◌∷◌, ◌++◌, codes, refl, sym, subst, ◌∙◌}
use Rattle.std.proofs.Common.{Bool, true, false, not, eqb}
use Rattle.std.specs.Prelude.{MatchOption, IfSome, IsTrue, Option, Some, None, ◌↔◌}
use Rattle.std.specs.Cmp.Lexicographic.{pointwise}
use Rattle.std.proofs.lemmas.Slice.Eq.{slice_eq-Decides}
use Rattle.std.proofs.lemmas.Bool.Decides.{Decides-eqb}
use Rattle.std.specs.Io.BufRead.{DropsThrough, take_through}
use Rattle.std.specs.Io.KnownBytes.{Consumes}
use Rattle.node_core.specs.Script.{AreLines, ended, joined}
use Rattle.node_core.specs.Script.Line.{Lacks}
use Rattle.node_core.proofs.Known.{Consumes-start, Consumes-then}
use Rattle.node_core.proofs.Lists.{Lacks-from_test, Lacks-no_cut, cut_once}
use Rattle.node_core.proofs.Playing.{AreLines-append}
use Rattle.journal.specs.LastFiles.{HasLastFiles, HasNoFiles, HaveLastRules, HaveNoRules, IsRulesLine}
use Rattle.journal.proofs.Lines.{lines_once}
use Rattle.journal.proofs.Replays.{all_read, joined_one}

-- ---- whether one line is a line of new rules

kind_lacks : Lacks 32 (codes "rules")
kind_lacks = Lacks-from_test 32 (codes "rules") refl

pub files_once : (line a b : List ℕ) → IsRulesLine line a → IsRulesLine line b → a ≡ b
files_once line a b h k =
    let rest = cut_once 32 (codes "rules") _ (codes "rules") _ kind_lacks kind_lacks (sym h.2 ∙ k.2) in
    let files = cut_once 32 h.0 a k.0 b h.1 k.1 rest.back in
    files.back

-- a line without spaces is not a line of new rules
pub no_kind : (line : List ℕ) → Lacks 32 line → (files : List ℕ) → IsRulesLine line files → ⊥
no_kind line lacks files h = Lacks-no_cut 32 (codes "rules") _ (subst (Lacks 32) h.2 lacks)

-- a line whose first word is not `rules` is not a line of new rules
pub other_kind : (line kind rest : List ℕ) → line ≡ kind ++ (32 ∷ rest) → Lacks 32 kind → (kind ≡ codes "rules" → ⊥) → (files : List ℕ) → IsRulesLine line files → ⊥
other_kind line kind rest e lacks other files h =
    let same = cut_once 32 kind rest (codes "rules") _ lacks kind_lacks (sym e ∙ h.2) in
    other same.front

-- a line whose first word is `rules`, and which has only one space, is not a line of new rules
pub no_files : (line rest : List ℕ) → line ≡ codes "rules" ++ (32 ∷ rest) → Lacks 32 rest → (files : List ℕ) → IsRulesLine line files → ⊥
no_files line rest e lacks files h =
    let same = cut_once 32 (codes "rules") rest (codes "rules") _ kind_lacks kind_lacks (sym e ∙ h.2) in
    Lacks-no_cut 32 h.0 files (subst (Lacks 32) same.back lacks)

-- if the octet-by-octet comparison found a difference between two words, the words are not equal
pub differ : (kind word : List ℕ) (found : Bool) → found ≡ not (pointwise eqb kind word) → found ≡ true → kind ≡ word → ⊥
differ kind word found compared is e = let same = (slice_eq-Decides Decides-eqb kind word (pointwise eqb kind word) refl).1 e in cc (compared, is, same)

-- if the octet-by-octet comparison found no difference between two words, the words are equal
pub same_kind : (kind word : List ℕ) (found : Bool) → found ≡ not (pointwise eqb kind word) → found ≡ false → kind ≡ word
same_kind kind word found compared is = (slice_eq-Decides Decides-eqb kind word (pointwise eqb kind word) refl).0 (not_false (pointwise eqb kind word) (sym compared ∙ is))
  where
    not_false : (b : Bool) → not b ≡ false → b ≡ true
    not_false true h = refl
    not_false false h = cc h

-- ---- the last line of new rules among several lines

pub none_then_other : (lines : List (List ℕ)) (line : List ℕ) → HaveNoRules lines → ((files : List ℕ) → IsRulesLine line files → ⊥) → HaveNoRules (lines ++ (line ∷ []))
none_then_other [] line none other = (other, tt)
none_then_other (first ∷ lines) line none other = (none.0, none_then_other lines line none.1 other)

pub last_then_other : (lines : List (List ℕ)) (line files : List ℕ) → HaveLastRules lines files → ((files : List ℕ) → IsRulesLine line files → ⊥) → HaveLastRules (lines ++ (line ∷ [])) files
last_then_other [] line files h other = absurd h
last_then_other (first ∷ lines) line files (inl h) other = inl (h.0, none_then_other lines line h.1 other)
last_then_other (first ∷ lines) line files (inr h) other = inr (last_then_other lines line files h other)

pub last_is : (lines : List (List ℕ)) (line files : List ℕ) → IsRulesLine line files → HaveLastRules (lines ++ (line ∷ [])) files
last_is [] line files h = inl (h, tt)
last_is (first ∷ lines) line files h = inr (last_is lines line files h)

not_both : (lines : List (List ℕ)) (files : List ℕ) → HaveNoRules lines → HaveLastRules lines files → ⊥
not_both [] files none h = h
not_both (line ∷ lines) files none (inl h) = none.0 files h.0
not_both (line ∷ lines) files none (inr h) = not_both lines files none.1 h

last_once : (lines : List (List ℕ)) (a b : List ℕ) → HaveLastRules lines a → HaveLastRules lines b → a ≡ b
last_once [] a b h k = absurd h
last_once (line ∷ lines) a b (inl h) (inl k) = files_once line a b h.0 k.0
last_once (line ∷ lines) a b (inl h) (inr k) = absurd (not_both lines b h.1 k)
last_once (line ∷ lines) a b (inr h) (inl k) = absurd (not_both lines a k.1 h)
last_once (line ∷ lines) a b (inr h) (inr k) = last_once lines a b h k

-- ---- the files in the last line of new rules of a text

pub last_files_once : (text a b : List ℕ) → HasLastFiles text a → HasLastFiles text b → a ≡ b
last_files_once text a b h k =
    let same = lines_once h.0 k.0 h.1 k.1 h.2 k.2 h.3 k.3 (sym h.4 ∙ k.4) in
    last_once k.0 a b (subst (λ (lines : List (List ℕ)). HaveLastRules lines a) same h.5) k.5

pub no_files_or_last : (text files : List ℕ) → HasNoFiles text → HasLastFiles text files → ⊥
no_files_or_last text files h k =
    let same = lines_once h.0 k.0 h.1 k.1 h.2 k.2 h.3 k.3 (sym h.4 ∙ k.4) in
    not_both k.0 files (subst HaveNoRules same h.5) k.5

-- ---- the loop over the lines of the text

-- The lines that were read so far. `last` is the text of the files in the last line of new rules
-- that was read, or None if no line of new rules was read.
pub record ReadSoFar {A : Type 0} (items : A → List ℕ) (unread left : Option (List ℕ)) (last : Option A) : Type 0 where
  pub lines : List (List ℕ)
  pub are_lines : AreLines lines
  pub read : Consumes unread left (joined lines)
  pub has : MatchOption last (HaveNoRules lines) (λ files. HaveLastRules lines (items files))

pub read_none : {A : Type 0} (items : A → List ℕ) (unread : Option (List ℕ)) → ReadSoFar items unread unread None
read_none items unread = record { lines = []; are_lines = tt; read = Consumes-start unread; has = tt }

module _ {A : Type 0} (items : A → List ℕ) (unread between left : Option (List ℕ)) (line : List ℕ) where
  read_line : (last new : Option A) (h : ReadSoFar items unread between last) → Lacks 10 line → Consumes between left (ended line)
      → MatchOption new (HaveNoRules (h.lines ++ (line ∷ []))) (λ files. HaveLastRules (h.lines ++ (line ∷ [])) (items files)) → ReadSoFar items unread left new
  read_line last new h lacks read has = record {
    lines = h.lines ++ (line ∷ []);
    are_lines = AreLines-append h.lines (line ∷ []) h.are_lines (lacks, tt);
    read = subst (Consumes unread left) (sym (joined_one h.lines line)) (Consumes-then unread between left (joined h.lines) (ended line) h.read read);
    has = has;
  }

  pub read_rules : (last : Option A) (files : A) → ReadSoFar items unread between last → Lacks 10 line → Consumes between left (ended line) → IsRulesLine line (items files)
      → ReadSoFar items unread left (Some files)
  read_rules last files h lacks read is = read_line last (Some files) h lacks read (last_is h.lines line (items files) is)

  pub read_other : (last : Option A) → ReadSoFar items unread between last → Lacks 10 line → Consumes between left (ended line) → ((files : List ℕ) → IsRulesLine line files → ⊥)
      → ReadSoFar items unread left last
  read_other None h lacks read other = read_line None None h lacks read (none_then_other h.lines line h.has other)
  read_other (Some files) h lacks read other = read_line (Some files) (Some files) h lacks read (last_then_other h.lines line (items files) h.has other)

pub read_all : {A : Type 0} (items : A → List ℕ) (unread between left : Option (List ℕ)) (cut : List ℕ) (last : Option A) → ReadSoFar items unread between last
    → IfSome between (λ xs. cut ≡ take_through 10 xs) → DropsThrough between left 10 → Lacks 10 cut
    → IfSome unread (λ text. MatchOption last (HasNoFiles text) (λ files. HasLastFiles text (items files)))
read_all items None between left cut last h is rest lacks = tt
read_all items (Some text) between left cut None h is rest lacks =
    (h.lines, cut, h.are_lines, lacks, (all_read (Some text) between left (joined h.lines) cut h.read is rest lacks).0, h.has)
read_all items (Some text) between left cut (Some files) h is rest lacks =
    (h.lines, cut, h.are_lines, lacks, (all_read (Some text) between left (joined h.lines) cut h.read is rest lacks).0, h.has)

-- ---- comparing the found files with other files

-- if no line of new rules was found, then `files` are not the last files of the text
pub are_none : {A : Type 0} (items : A → List ℕ) (unread : Option (List ℕ)) (last : Option A) (files : List ℕ) → last ≡ None
    → IfSome unread (λ text. MatchOption last (HasNoFiles text) (λ found. HasLastFiles text (items found)))
    → IfSome unread (λ text. IsTrue false ↔ HasLastFiles text files)
are_none items None last files none h = tt
are_none items (Some text) None files none h = (λ no. absurd cc, λ is. absurd (no_files_or_last text files h is))
are_none items (Some text) (Some found) files none h = absurd cc

-- if a line of new rules was found, `files` are the last files of the text exactly if the
-- octet-by-octet comparison of the found files with `files` finds no difference
pub are_last : {A : Type 0} (items : A → List ℕ) (unread : Option (List ℕ)) (last : Option A) (found : A) (spelled files : List ℕ) (same : Bool) → last ≡ Some found
    → same ≡ pointwise eqb (items found) spelled → spelled ≡ files
    → IfSome unread (λ text. MatchOption last (HasNoFiles text) (λ found. HasLastFiles text (items found)))
    → IfSome unread (λ text. IsTrue same ↔ HasLastFiles text files)
are_last items None last found spelled files same some compared spells h = tt
are_last items (Some text) None found spelled files same some compared spells h = absurd cc
are_last items (Some text) (Some other) found spelled files same some compared spells h =
    let is : other ≡ found = cc some in
    let has : HasLastFiles text (items found) = subst (λ x. HasLastFiles text (items x)) is h in
    let decides = slice_eq-Decides Decides-eqb (items found) files same (subst (λ (word : List ℕ). same ≡ pointwise eqb (items found) word) spells compared) in
    (λ yes. subst (HasLastFiles text) (decides.0 yes) has, λ last. decides.1 (last_files_once text (items found) files has last))
