-- The meaning of filters, hyper-relations and key locators.
use Rattle.std.proofs.Common.{◌≡◌, ℕ, Bool, true, List, [], ◌∷◌, length, refl, ap, subst, ◌∙◌}
use Rattle.std.specs.Prelude.{Option, Some, None, Ok, not, codes, ◌||◌}
use Rattle.name_patterns.specs.Pattern.{PlainPattern}
use Rattle.name_patterns.specs.Grammar.{IsPattern}
use Rattle.name_patterns.specs.Template.{PlainPart, IsTemplate}
use Rattle.name_patterns.specs.PatternReading.{pattern_in}
use Rattle.name_patterns.specs.TemplateReading.{template_in}
use Rattle.std.specs.Option.{option_zip}
use Rattle.info_rules.specs.declared.fault.RulesFaultKind.TheVariants as kinds
use Rattle.info_rules.specs.declared.rule.Relation.{Relation}
use Rattle.info_rules.specs.declared.rule.NameTest.{NameTest}
use Rattle.info_rules.specs.declared.rule.LocatorTest.{LocatorTest}
use Rattle.info_rules.specs.declared.rule.LocatorTest.TheVariants as locators
use Rattle.info_rules.specs.Blocks as blocks
use Rattle.info_rules.specs.Forms as forms
use Rattle.info_rules.specs.Forms.{PacketName, KeyName}
use Rattle.info_rules.specs.Hyper.{PlainHyper}
use Rattle.info_rules.specs.Tree.{Block, blocks_of}
use Rattle.info_rules.specs.Table.{table}
use Rattle.info_rules.specs.Walk.{walk_faults}
use Rattle.info_rules.specs.Faults.{after}
use Rattle.info_rules.specs.Found.{Found, both, beside, needed_one, needed, shown, then_made, each}
use Rattle.info_rules.specs.Keys.{first_of, others_of, named, missing_unless}
use Rattle.info_rules.specs.ValueWords.{relation_in}
use Rattle.info_rules.specs.Values.{ok_of, value_in}
use Rattle.info_rules.specs.NameTest.{Names, asked_in, test_of}
use Rattle.info_rules.specs.FilterBlock.{filter_of, filter_in}
use Rattle.info_rules.specs.HyperBlock.{Half, groups_of, half_in, parts_in, hyper_with, hyper_made, is_whole, hyper_of, hyper_in}
use Rattle.info_rules.specs.LocatorBlock.{is_hyper_alone, test_by, locator_made, locator_of, locator_in}
use Rattle.info_rules.specs.Meaning.{HasOnly, Lacks, Has, AsksOfName, IsFilter, AsksOfBoth, IsHyper, AsksOfKey, IsLocator}
use Rattle.info_rules.proofs.FoundParts.{both_ok, beside_ok, shown_ok, made_ok, zip_some, needed_ok}
use Rattle.info_rules.proofs.Meanings.{beside_again, both_again, made_again, needed_again, fits, fits_again, lacks, only_of, has, has_again, has_there, has_once, lacks_once, block_ok, block_again, first_gave, one_again, none_again, one_once}
use Rattle.info_rules.proofs.WordMeanings.{pattern_means, pattern_meant, template_means, template_meant, relation_means, relation_meant}
use Rattle.info_rules.proofs.NameMeanings.{words_by, words_for, StandOnce, IsAsked, is_asked, test_means, test_meant, once_there, known_there, hyper_asked, hyper_alone, lacks_hyper, hyper_more}

some_one : {A : Type 0} (x y : A) → Some x ≡ Some y → x ≡ y
some_one x y e = cc

pub ok_one : {A : Type 0} (g : Found A) (x y : A) → g ≡ Ok x → g ≡ Ok y → x ≡ y
ok_one g x y p q = cc

-- ---- the meaning of filters

filter_keys : (line : ℕ) (keys : List Block) (test : NameTest) → filter_of line keys ≡ Ok test → AsksOfName keys test
unfolding filter_of table
filter_keys line keys test e =
    let asked = asked_in PacketName line keys in
    let parts = beside_ok (after None (walk_faults blocks.Filter keys)) (needed line asked) test e in
    let fit = fits blocks.Filter keys refl parts.0 in
    let once : StandOnce keys = record { type = fit.1.0; name = fit.1.1.0; relation = fit.1.1.1.0; regex = fit.1.1.1.1.0 } in
    let read = is_asked PacketName line keys (Some test) fit.0 once (needed_ok line asked test parts.1) in
    test_means PacketName keys read.0 test once read.1 read.2

keys_filter : (line : ℕ) (keys : List Block) (test : NameTest) → AsksOfName keys test → filter_of line keys ≡ Ok test
unfolding filter_of table
keys_filter line keys test h =
    let once = once_there keys test h in
    let fit = fits_again blocks.Filter keys refl (known_there PacketName keys test h) (once.type, (once.name, (once.relation, (once.regex, tt)))) in
    beside_again (after None (walk_faults blocks.Filter keys)) (needed line (asked_in PacketName line keys)) test fit (needed_again line (asked_in PacketName line keys) test (test_meant PacketName line keys test h))

pub filter_means : (key : Block) (test : NameTest) → filter_in key ≡ Ok test → IsFilter key test
unfolding filter_in
filter_means key test e = let block = block_ok 2 filter_of key test e in (block.0, filter_keys key.0.line (blocks_of 2 key.1) test block.1)

pub filter_meant : (key : Block) (test : NameTest) → IsFilter key test → filter_in key ≡ Ok test
unfolding filter_in
filter_meant key test h = block_again 2 filter_of key test h.0 (keys_filter key.0.line (blocks_of 2 key.1) test h.1)

-- ---- the meaning of hyper-relations

half_means : (pattern_word template_word : List ℕ) (keys : List Block) (pattern : PlainPattern) (template : List PlainPart) → others_of (named pattern_word keys) ≡ [] → others_of (named template_word keys) ≡ []
    → half_in pattern_word template_word keys ≡ Ok (Some (pattern, template)) → Has IsPattern pattern_word keys pattern × Has (IsTemplate (length pattern.groups)) template_word keys template
unfolding half_in
half_means pattern_word template_word keys pattern template first second e =
    let read = value_in kinds.Pattern (λ text. ok_of (pattern_in text)) pattern_word keys in
    let expand = value_in kinds.Pattern (λ text. ok_of (template_in (groups_of read) text)) template_word keys in
    let pair = shown_ok (λ (p : Option PlainPattern × Option (List PlainPart)). option_zip p.0 p.1) (both read expand) (Some (pattern, template)) e in
    let sides = zip_some pair.0.0 pair.0.1 (pattern, template) pair.2 in
    let given = both_ok read expand pair.0 pair.1 in
    let first_is = given.0 ∙ ap Ok sides.0 in
    let second_is = given.1 ∙ ap Ok sides.1 in
    let spelled = has kinds.Pattern (λ text. ok_of (pattern_in text)) pattern_word keys pattern first_is first in
    let with_groups : value_in kinds.Pattern (λ text. ok_of (template_in (length pattern.groups) text)) template_word keys ≡ Ok (Some template) =
    subst (λ (r : Found (Option PlainPattern)). value_in kinds.Pattern (λ text. ok_of (template_in (groups_of r) text)) template_word keys ≡ Ok (Some template)) first_is second_is in
    let expanded = has kinds.Pattern (λ text. ok_of (template_in (length pattern.groups) text)) template_word keys template with_groups second in
    ((spelled.0, spelled.1, pattern_means spelled.0 pattern spelled.2), (expanded.0, expanded.1, template_means (length pattern.groups) expanded.0 template expanded.2))

half_meant : (pattern_word template_word : List ℕ) (keys : List Block) (pattern : PlainPattern) (template : List PlainPart) → Has IsPattern pattern_word keys pattern → Has (IsTemplate (length pattern.groups)) template_word keys template
    → half_in pattern_word template_word keys ≡ Ok (Some (pattern, template))
unfolding half_in
half_meant pattern_word template_word keys pattern template given expand =
    let read = has_again kinds.Pattern (λ text. ok_of (pattern_in text)) pattern_word keys pattern given.0 given.1 (pattern_meant given.0 pattern given.2) in
    let expanded = has_again kinds.Pattern (λ text. ok_of (template_in (length pattern.groups) text)) template_word keys template expand.0 expand.1 (template_meant (length pattern.groups) expand.0 template expand.2) in
    rw (read, expanded) refl

-- `key`, `relation` and `packet` are present, and they are the parts of `hyper`
record AreParts (hyper : PlainHyper) (key : Half) (relation : Option Relation) (packet : Half) : Type 0 where
  key_is : key ≡ Some (hyper.key_pattern, hyper.key_template)
  relation_is : relation ≡ Some hyper.relation
  packet_is : packet ≡ Some (hyper.packet_pattern, hyper.packet_template)

parts_of : (hyper : PlainHyper) (key : Half) (relation : Option Relation) (packet : Half) → hyper_with key relation packet ≡ Some hyper → AreParts hyper key relation packet
parts_of hyper None c d h = absurd cc
parts_of hyper (Some a) c None h = absurd cc
parts_of hyper (Some a) None (Some d) h = absurd cc
parts_of hyper (Some a) (Some c) (Some d) h =
    let whole : PlainHyper = record { key_pattern = a.0; key_template = a.1; relation = c; packet_pattern = d.0; packet_template = d.1 } in
    let same : whole ≡ hyper = some_one whole hyper h in
    record {
      key_is = ap (λ (x : PlainHyper). Some (x.key_pattern, x.key_template)) same;
      relation_is = ap (λ (x : PlainHyper). Some x.relation) same;
      packet_is = ap (λ (x : PlainHyper). Some (x.packet_pattern, x.packet_template)) same;
    }

hyper_keys : (needed : Bool) (line : ℕ) (keys : List Block) (hyper : PlainHyper) → hyper_of needed line keys ≡ Ok (Some hyper) → AsksOfBoth keys hyper
unfolding hyper_of parts_in table
hyper_keys needed line keys hyper e =
    let all = beside_ok (after None (walk_faults blocks.Hyper keys)) (beside (missing_unless (not needed || is_whole keys) line) (then_made hyper_made (parts_in keys))) (Some hyper) e in
    let fit = fits blocks.Hyper keys refl all.0 in
    let read = beside_ok (missing_unless (not needed || is_whole keys) line) (then_made hyper_made (parts_in keys)) (Some hyper) all.1 in
    let made = made_ok hyper_made (parts_in keys) (Some hyper) read.1 in
    let parts = parts_of hyper made.0.0.0 made.0.0.1 made.0.1 (ok_one (hyper_made made.0) (hyper_with made.0.0.0 made.0.0.1 made.0.1) (Some hyper) refl made.2) in
    let key_half = half_in (codes "k-regex") (codes "k-expand") keys in
    let packet_half = half_in (codes "p-regex") (codes "p-expand") keys in
    let how = value_in kinds.BadValue relation_in (codes "h-relation") keys in
    let two = both_ok (both key_half how) packet_half made.0 made.1 in
    let one = both_ok key_half how made.0.0 two.0 in
    let key = half_means (codes "k-regex") (codes "k-expand") keys hyper.key_pattern hyper.key_template fit.1.0 fit.1.1.0 (one.0 ∙ ap Ok parts.key_is) in
    let packet = half_means (codes "p-regex") (codes "p-expand") keys hyper.packet_pattern hyper.packet_template fit.1.1.1.1.0 fit.1.1.1.1.1.0 (two.1 ∙ ap Ok parts.packet_is) in
    let stands = has kinds.BadValue relation_in (codes "h-relation") keys hyper.relation (one.1 ∙ ap Ok parts.relation_is) fit.1.1.1.0 in
    (fit.0, key.0, key.1, (stands.0, stands.1, relation_means stands.0 hyper.relation stands.2), packet.0, packet.1)

keys_hyper : (line : ℕ) (keys : List Block) (hyper : PlainHyper) → AsksOfBoth keys hyper → hyper_of true line keys ≡ Ok (Some hyper)
unfolding hyper_of parts_in table
keys_hyper line keys hyper (only, key_pattern, key_template, stands, packet_pattern, packet_template) =
    let fit = fits_again blocks.Hyper keys refl only (
      has_once (codes "k-regex") keys key_pattern.0 key_pattern.1,
      (
        has_once (codes "k-expand") keys key_template.0 key_template.1,
        (
          has_once (codes "h-relation") keys stands.0 stands.1,
          (has_once (codes "p-regex") keys packet_pattern.0 packet_pattern.1, (has_once (codes "p-expand") keys packet_template.0 packet_template.1, tt)),
        ),
      ),
    ) in
    let whole : is_whole keys ≡ true =
    rw (
      has_there (codes "k-regex") keys key_pattern.0 key_pattern.1,
      has_there (codes "k-expand") keys key_template.0 key_template.1,
      has_there (codes "h-relation") keys stands.0 stands.1,
      has_there (codes "p-regex") keys packet_pattern.0 packet_pattern.1,
      has_there (codes "p-expand") keys packet_template.0 packet_template.1,
    ) refl in
    let key = half_meant (codes "k-regex") (codes "k-expand") keys hyper.key_pattern hyper.key_template key_pattern key_template in
    let packet = half_meant (codes "p-regex") (codes "p-expand") keys hyper.packet_pattern hyper.packet_template packet_pattern packet_template in
    let how = has_again kinds.BadValue relation_in (codes "h-relation") keys hyper.relation stands.0 stands.1 (relation_meant stands.0 hyper.relation stands.2) in
    rw (fit, whole, key, how, packet) refl

hyper_means : (needed : Bool) (key : Block) (hyper : PlainHyper) → hyper_in needed key ≡ Ok (Some hyper) → IsHyper key hyper
unfolding hyper_in
hyper_means needed key hyper e = let block = block_ok 4 (hyper_of needed) key (Some hyper) e in (block.0, hyper_keys needed key.0.line (blocks_of 4 key.1) hyper block.1)

hyper_meant : (key : Block) (hyper : PlainHyper) → IsHyper key hyper → hyper_in true key ≡ Ok (Some hyper)
unfolding hyper_in
hyper_meant key hyper h = block_again 4 (hyper_of true) key (Some hyper) h.0 (keys_hyper key.0.line (blocks_of 4 key.1) hyper h.1)

-- ---- the meaning of key locators

not_lacked : (word : List ℕ) (keys rest : List Block) (key : Block) → named word keys ≡ key ∷ rest → Lacks word keys → ⊥
not_lacked word keys rest key is none = absurd cc

by_hyper : (form : forms.Form) (keys : List Block) (key : Block) → HasOnly (words_by form) keys → named (codes "hyper-relation") keys ≡ key ∷ [] → HasOnly (words_by forms.Hyper) keys
by_hyper forms.Related keys key only is = absurd (not_lacked (codes "hyper-relation") keys [] key is (lacks (words_by forms.Related) (codes "hyper-relation") keys refl only))
by_hyper forms.Matching keys key only is = absurd (not_lacked (codes "hyper-relation") keys [] key is (lacks (words_by forms.Matching) (codes "hyper-relation") keys refl only))
by_hyper forms.Hyper keys key only is = only

-- `keys` are the keys of a key locator: if the requirement `test` is made from the name test that
-- `keys` state, then `test` is the meaning of `keys`
named_test : (line : ℕ) (keys : List Block) (names : Names) (asked : Option NameTest) (test : LocatorTest) → StandOnce keys → IsAsked KeyName keys names → test_of names ≡ asked → shown locators.Name (needed_one line asked) ≡ Ok test → AsksOfKey keys test
named_test line keys names asked test once by shows e =
    let read = shown_ok locators.Name (needed_one line asked) test e in
    let given = needed_ok line (Ok asked) read.0 read.1 in
    let some : asked ≡ Some read.0 = cc in
    subst (AsksOfKey keys) read.2 (test_means KeyName keys names read.0 once by (shows ∙ some))

-- `keys` are the keys of a key locator: if the requirement `test` is made from the first
-- hyper-relation or from the name test that `keys` state, then `test` is the meaning of `keys`
locator_by : (line : ℕ) (keys : List Block) (names : Names) (asked : Option NameTest) (hypers : List (Option PlainHyper)) (test : LocatorTest) → StandOnce keys → others_of (named (codes "hyper-relation") keys) ≡ [] → IsAsked KeyName keys names → test_of names ≡ asked
    → each (hyper_in (is_hyper_alone keys)) (named (codes "hyper-relation") keys) ≡ Ok hypers → (first : Option (Option PlainHyper)) → first_of hypers ≡ first → test_by line asked first ≡ Ok test → AsksOfKey keys test
locator_by line keys names asked hypers test once alone by shows e None is made = named_test line keys names asked test once by shows made
locator_by line keys names asked hypers test once alone by shows e (Some None) is made = named_test line keys names asked test once by shows made
locator_by line keys names asked hypers test once alone by shows e (Some (Some hyper)) is made =
    let same : locators.Hyper hyper ≡ test = cc in
    let gave = first_gave (hyper_in (is_hyper_alone keys)) (codes "hyper-relation") keys hypers (Some hyper) alone e is in
    subst (AsksOfKey keys) same (by_hyper by.form keys gave.0 by.only gave.1, by.type, (gave.0, gave.1, hyper_means (is_hyper_alone keys) gave.0 hyper gave.2))

locator_keys : (line : ℕ) (keys : List Block) (test : LocatorTest) → locator_of line keys ≡ Ok test → AsksOfKey keys test
unfolding locator_of table
locator_keys line keys test e =
    let hypers = each (hyper_in (is_hyper_alone keys)) (named (codes "hyper-relation") keys) in
    let all = beside_ok (after None (walk_faults blocks.Locator keys)) (then_made (locator_made line) (both (asked_in KeyName line keys) hypers)) test e in
    let fit = fits blocks.Locator keys refl all.0 in
    let once : StandOnce keys = record { type = fit.1.0; name = fit.1.1.0; relation = fit.1.1.1.0; regex = fit.1.1.1.1.0 } in
    let made = made_ok (locator_made line) (both (asked_in KeyName line keys) hypers) test all.1 in
    let parts = both_ok (asked_in KeyName line keys) hypers made.0 made.1 in
    let read = is_asked KeyName line keys made.0.0 fit.0 once parts.0 in
    locator_by line keys read.0 made.0.0 made.0.1 test once fit.1.1.1.1.1.0 read.1 read.2 parts.1 (first_of made.0.1) refl made.2

keys_locator : (line : ℕ) (keys : List Block) (test : LocatorTest) → AsksOfKey keys test → locator_of line keys ≡ Ok test
unfolding locator_of table is_hyper_alone
keys_locator line keys (locators.Name test) h =
    let once = once_there keys test h in
    let none = lacks_hyper keys test h in
    let fit = fits_again blocks.Locator keys refl (known_there KeyName keys test h) (once.type, (once.name, (once.relation, (once.regex, (lacks_once (codes "hyper-relation") keys none, tt))))) in
    let meant = test_meant KeyName line keys test h in
    let hypers = none_again (hyper_in (is_hyper_alone keys)) (codes "hyper-relation") keys none in
    let read = both_again (asked_in KeyName line keys) (each (hyper_in (is_hyper_alone keys)) (named (codes "hyper-relation") keys)) (Some test) [] meant hypers in
    beside_again (after None (walk_faults blocks.Locator keys)) (then_made (locator_made line) (both (asked_in KeyName line keys) (each (hyper_in (is_hyper_alone keys)) (named (codes "hyper-relation") keys)))) (locators.Name test) fit
    (made_again (locator_made line) (both (asked_in KeyName line keys) (each (hyper_in (is_hyper_alone keys)) (named (codes "hyper-relation") keys))) (Some test, []) (locators.Name test) read refl)
keys_locator line keys (locators.Hyper hyper) (only, type, block) =
    let words = words_by forms.Hyper in
    let fit = fits_again blocks.Locator keys refl (only_of words (words_for KeyName) keys hyper_more only) (
      has_once (codes "type") keys (codes "name") type,
      (
        lacks_once (codes "name") keys (lacks words (codes "name") keys refl only),
        (
          lacks_once (codes "relation") keys (lacks words (codes "relation") keys refl only),
          (lacks_once (codes "regex") keys (lacks words (codes "regex") keys refl only), (one_once (codes "hyper-relation") keys block.0 block.1, tt)),
        ),
      ),
    ) in
    let alone : is_hyper_alone keys ≡ true = rw (hyper_alone keys only) refl in
    let gives : hyper_in (is_hyper_alone keys) block.0 ≡ Ok (Some hyper) = rw alone (hyper_meant block.0 hyper block.2) in
    let hypers = one_again (hyper_in (is_hyper_alone keys)) (codes "hyper-relation") keys block.0 (Some hyper) block.1 gives in
    let names = hyper_asked line keys block.0 only type block.1 in
    rw (fit, names, hypers) refl
keys_locator line keys locators.Hierarchical h = absurd h

pub locator_means : (key : Block) (test : LocatorTest) → locator_in key ≡ Ok test → IsLocator key test
unfolding locator_in
locator_means key test e = let block = block_ok 3 locator_of key test e in (block.0, locator_keys key.0.line (blocks_of 3 key.1) test block.1)

pub locator_meant : (key : Block) (test : LocatorTest) → IsLocator key test → locator_in key ≡ Ok test
unfolding locator_in
locator_meant key test h = block_again 3 locator_of key test h.0 (keys_locator key.0.line (blocks_of 3 key.1) test h.1)
