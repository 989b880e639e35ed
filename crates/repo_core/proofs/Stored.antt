-- All stored objects are Data.
use Rattle.std.proofs.Common.{◌≡◌, ℕ, Bool, true, false, cond, eqb, List, refl, sym, subst, ◌∙◌}
use Rattle.std.specs.Prelude.{Option, None, Some, not}
use Rattle.std.specs.Ordering.{eq_by_cmp}
use Rattle.std.specs.FinMap as map
use Rattle.std.specs.FinMap.{get, get-empty, get-insert}
use Rattle.sha2.specs.Sha256.{sha256}
use Rattle.ndn_tlv.specs.Element.{Field}
use Rattle.ndn_names.specs.Order.{name_cmp}
use Rattle.ndn_names.specs.Key.{name_cmp-total, name_cmp-antisymmetric}
use Rattle.ndn_packets.specs.Answers.{full_name}
use Rattle.ndn_packets.specs.Grammar.{IsData}
use Rattle.ndn_packets.specs.Packet.{PlainData}
use Rattle.ndn_packets.specs.View.{plain_data}
use Rattle.ndn_packets.specs.declared.data.Data.{Data}
use Rattle.ndn_packets.proofs.Held.{data_read}
use Rattle.std.specs.Cmp.{Equal-is}
use Rattle.repo_core.specs.declared.verb.Verb.TheVariants.{Insert, Delete, Check}
use Rattle.repo_core.specs.Objects.{Objects, IsObject, AreObjects, full_name_answers, if_kept, kept, object_of, without_answering}
use Rattle.repo_core.specs.Reading.{RepoCommand, repo_command_at}
use Rattle.repo_core.specs.Repo.{Held, after_command, after_delete, after_insert, after_known, after_offer, after_some, repo_status_of, want_key}
use Rattle.repo_core.specs.Wants.{is_wanted, unfilled, want_deadline}
use Rattle.repo_core.proofs.Kept.{get-kept}

pub none_are_objects : AreObjects map.empty
none_are_objects full octets e = (let no : None ≡ Some octets = sym (get-empty name_cmp full) ∙ e in cc)

pub read_object : (octets : List ℕ) (packet : PlainData) → IsData octets packet → IsObject (full_name packet.name (sha256 octets)) octets
read_object octets packet read = record { packet = packet; read = read; name = refl }

pub data_object : (d : Data) → IsObject (object_of d).0 (object_of d).1
data_object d = read_object d.whole.now (plain_data d) (data_read d)

-- after an insertion of a Data under its full name, all stored objects are still Data
pub put_objects : (objects : Objects) (full : List Field) (octets : List ℕ) → IsObject full octets → AreObjects objects → AreObjects (map.insert objects full octets)
put_objects objects full octets is h name found e =
    by (eq_by_cmp name_cmp name full) refl (sym (get-insert name_cmp-total objects full octets name) ∙ e)
  where
    here : eq_by_cmp name_cmp name full ≡ true → full ≡ name
    here t = sym (name_cmp-antisymmetric name full ((Equal-is (name_cmp name full)).0 t))

    by : (b : Bool) → eq_by_cmp name_cmp name full ≡ b → cond b (Some octets) (get objects name) ≡ Some found → IsObject name found
    by true t e =
        let same : octets ≡ found = cc in
        subst (λ (o : List ℕ). IsObject name o) same (subst (λ (n : List Field). IsObject n octets) (here t) is)
    by false t e = h name found e

-- a value that is present after a removal was present before the removal
left : (test : List Field × List ℕ → Bool) (name : List Field) (found : List ℕ) (o : Option (List ℕ)) → if_kept test name o ≡ Some found → o ≡ Some found
left test name found None e = e
left test name found (Some x) e = by (test (name, x)) e
  where
    by : (b : Bool) → cond b (Some x) None ≡ Some found → Some x ≡ Some found
    by true e = e
    by false e = absurd cc

pub kept_objects : (test : List Field × List ℕ → Bool) (objects : Objects) → AreObjects objects → AreObjects (kept test objects)
kept_objects test objects h name found e =
    h name found (left test name found (get objects name) (sym (get-kept name_cmp-antisymmetric test name objects) ∙ e))

pub removed_objects : (name : List Field) (flag : Bool) (objects : Objects) → AreObjects objects → AreObjects (without_answering name flag objects)
removed_objects name flag objects h = kept_objects (λ o. not (full_name_answers name flag o.0)) objects h

module _ (s : Held) (h : AreObjects s.objects) where
  insert_objects : (c : RepoCommand) (now : ℕ) → AreObjects (after_insert c now s).objects
  insert_objects c now = by (eqb (repo_status_of s c) 100)
    where
      by : (b : Bool) → AreObjects (cond b (record s { wants = map.insert s.wants (want_key c) (want_deadline now c.lifetime) }) s).objects
      by true = h
      by false = h

  delete_objects : (c : RepoCommand) → AreObjects (after_delete c s).objects
  delete_objects c = by (eqb (repo_status_of s c) 200)
    where
      by : (b : Bool) → AreObjects (cond b (record {
        objects = without_answering c.name c.can_be_prefix s.objects;
        wants = map.remove s.wants (want_key c);
      }) s).objects
      by true = removed_objects c.name c.can_be_prefix s.objects h
      by false = h

  abbrev AreObjectsOf : Held → Type 0
  AreObjectsOf t = AreObjects t.objects

  known_objects : (c : RepoCommand) (now : ℕ) → AreObjects (after_known c now s).objects
  known_objects c now =
      elim c.verb as (λ v. AreObjectsOf (elim v [ Insert ↦ after_insert c now s | Delete ↦ after_delete c s | Check ↦ s ])) [
        | Insert ↦ insert_objects c now
        | Delete ↦ delete_objects c
        | Check ↦ h
      ]

  pub command_objects : (start name : List Field) (now : ℕ) → AreObjects (after_command start name now s).objects
  command_objects start name now = some (repo_command_at start name)
    where
      some : (o : Option RepoCommand) → AreObjects (after_some o now s).objects
      some None = h
      some (Some c) = known_objects c now

  pub offer_objects : (packet : PlainData) (octets : List ℕ) → IsData octets packet → AreObjects (after_offer packet.name (sha256 octets) octets s).objects
  offer_objects packet octets read = by (is_wanted packet.name (sha256 octets) s.wants)
    where
      by : (b : Bool) → AreObjects (cond b (record {
        objects = map.insert s.objects (full_name packet.name (sha256 octets)) octets;
        wants = unfilled packet.name (sha256 octets) s.wants;
      }) s).objects
      by true = put_objects s.objects (full_name packet.name (sha256 octets)) octets (read_object octets packet read) h
      by false = h
