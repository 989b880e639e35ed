use Rattle.std.proofs.Common.{◌≡◌, ◌≢◌, ◌≤◌, ◌++◌, ◌∷◌, [], List, Ok, length, arith, inl, subst, sym, ap, ◌∙◌}
use Rattle.std.proofs.lemmas.List.{length-append}
use Rattle.ndn_tlv.specs.Element.{Field}
use Rattle.ndn_names.specs.View.{components}
use Rattle.key_files.specs.KeyFile.{NamedKey, AreApart}
use Rattle.key_files.specs.KeyReading.{has_name}
use Rattle.key_files.specs.Shown.{named_keys}
use Rattle.key_files.proofs.Books.{found_has, named_twice, one_too_many, key_added, apart_more, named_more}
use Rattle.key_files.proofs.key_book.KeyBook.add.Goals as goal
use Rattle.key_files.proofs.key_book.KeyBook.add.Goals.{After-is_some, In_ok-push}

has_it : (c : After-is_some) → c.is_some.result ≡ has_name c.args.entry.name c.args.self.now
has_it c =
    c.is_some.ensures ∙ found_has (components c.view.result) c.args.self.now c.key.result c.key.ensures
    ∙ ap (λ (name : List Field). has_name name c.args.self.now) c.view.ensures

-- after the call, the book has the keys that it had before the call, followed by the added key
grown : (c : In_ok-push) → named_keys c.push.new.self.items ≡ c.args.self.now ++ (c.args.entry.name, c.args.entry.key) ∷ []
grown c = named_more c.self.inside.keys.items c.push.new.self.items c.args.entry c.args.self.now c.self.view_is c.in_ok-push.ensures.items

pub returns-then-is_some : goal.returns-then-is_some
returns-then-is_some c =
    inl (named_twice c.args.number c.args.self.now (c.args.entry.name, c.args.entry.key) (sym (has_it (goal.at.returns-then-is_some c).After-is_some) ∙ c.if-is_some.true))

pub returns-then-len-eq-MAX_KEYS : goal.returns-then-len-eq-MAX_KEYS
returns-then-len-eq-MAX_KEYS c =
    let lacks = sym (has_it (goal.at.returns-then-len-eq-MAX_KEYS c).After-is_some) ∙ c.if-is_some.false in
    inl (one_too_many c.args.number c.args.self.now (c.args.entry.name, c.args.entry.key) lacks (sym c.len.ensures.exact ∙ c.if-len-eq-MAX_KEYS.true))

pub invariant_of-self-2 : goal.invariant_of-self-2
invariant_of-self-2 c =
    let lacks = sym (has_it (goal.at.invariant_of-self-2 c).After-is_some) ∙ c.if-is_some.false in
    let few : length c.args.self.now ≤ 256 = subst (λ (keys : List NamedKey). length keys ≤ 256) c.self.view_is c.self.invariant.1 in
    rw (grown (goal.at.invariant_of-self-2 c).In_ok-push)
    (apart_more c.args.self.now (c.args.entry.name, c.args.entry.key) (subst AreApart c.self.view_is c.self.invariant.0) lacks, omega (arith, length-append {A = NamedKey}))

pub returns : goal.returns
returns c =
    let lacks = sym (has_it (goal.at.returns c).After-is_some) ∙ c.if-is_some.false in
    let room : length c.args.self.now ≢ 256 = λ full. c.if-len-eq-MAX_KEYS.false (c.len.ensures.exact ∙ full) in
    key_added c.args.number c.args.self.now (c.args.entry.name, c.args.entry.key) lacks room ∙ ap (λ (keys : List NamedKey). Ok keys) (sym (grown (goal.at.returns c).In_ok-push))
