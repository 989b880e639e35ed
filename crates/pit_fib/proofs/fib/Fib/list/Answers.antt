use Rattle.std.proofs.Common.{◌≡◌, ◌<◌, [], ◌∷◌, ◌++◌, List, length, get_or, rules, sym, ap, subst, ◌∙◌, Bor, arith}
use Rattle.std.proofs.lemmas.Iterator.Adapters.{YieldsList-from_vec}
use Rattle.std.proofs.lemmas.Iterator.Consumers.{YieldsList-end, YieldsList-turn}
use Rattle.std.proofs.lemmas.List.{map-append, map-id, length-map, get_or-map}
use Rattle.std.specs.Prelude.{IsSome, Some, map}
use Rattle.std.specs.FinMap.{entries, get}
use Rattle.ndn_tlv.specs.Element.{Field}
use Rattle.pit_fib.specs.Effective.{effective, entry_listed}
use Rattle.pit_fib.specs.Fib.{Entry, entry_left_at, left_at}
use Rattle.name_trie.specs.ByName.{revised}
use Rattle.pit_fib.specs.Hops.{hops_of}
use Rattle.pit_fib.proofs.FibLists.{all_listed, entry_at_place, left_there, none_left, one_left}
use Rattle.pit_fib.proofs.fib.Fib.list.Goals as goal

pub returns : goal.returns
returns c =
    let t = c.args.self.now.table in
    let items = c.in_ok-items.items.items in
    let turns = YieldsList-end (YieldsList-from_vec {s = c.into_iter-name-iterator.result} items (search rules) (search rules)) c.loop-name.yielded c.loop-name.name-iterator c.loop-name.yielded_by c.next.result c.next.new.self c.in-None.is c.next.ensures.steps in
    let whole : c.loop-name.yielded ≡ items = sym (map-id c.loop-name.yielded) ∙ turns.0 in
    let all : map (λ r. (r.0, r.1.now)) c.loop-name.yielded ≡ entries t = ap (map (λ r. (r.0, r.1.now))) whole ∙ c.in_ok-items.ensures ∙ ap (λ s. entries s.table) c.self.view_is in
    c.loop-name.invariant ∙ ap (λ l. map (entry_listed (left_at c.args.now t)) (revised (entry_left_at c.args.now) l)) all ∙ all_listed t c.args.now

abbrev shown : List Field × Bor Entry → List Field × Entry
shown r = (r.0, r.1.now)

pub hops_left_at-hops-requires : goal.hops_left_at-hops-requires
hops_left_at-hops-requires c =
    let t = c.args.self.now.table in
    let items = c.in_ok-items.items.items in
    let x : List Field × Bor Entry = (c.in-Some.name, c.in-Some.entry) in
    let i = length c.loop-name.yielded in
    let turn = YieldsList-turn (YieldsList-from_vec {s = c.into_iter-name-iterator.result} items (search rules) (search rules)) c.loop-name.yielded c.loop-name.name-iterator c.loop-name.yielded_by c.next.result c.next.new.self x c.in-Some.is c.next.ensures.steps in
    let all : map shown items ≡ entries t = c.in_ok-items.ensures ∙ ap (λ s. entries s.table) c.self.view_is in
    let less : i < length (entries t) = (let n = ap length (sym all) ∙ length-map items shown in let lt = turn.0 in omega (arith, n, lt)) in
    let row : shown x ≡ get_or (entries t) i (shown x) = ap shown turn.1 ∙ sym (get_or-map shown items i x (shown x) turn.0) ∙ ap (λ l. get_or l i (shown x)) all in
    let there : get t c.in-Some.name ≡ Some c.in-Some.entry.now = entry_at_place t i (shown x) less row in
    subst (λ n. IsSome (get (left_at c.args.now t) n)) (sym c.view.ensures)
    (left_there t c.args.now c.in-Some.name c.in-Some.entry.now there (sym c.is_left_at.ensures ∙ c.if-is_left_at.true))

pub loop-name-preserved-in-Continue-branch-2 : goal.loop-name-preserved-in-Continue-branch-2
loop-name-preserved-in-Continue-branch-2 c =
    let t = c.args.self.now.table in
    let lt = left_at c.args.now t in
    let es = map shown c.loop-name.yielded in
    let x : List Field × Bor Entry = (c.in-Some.name, c.in-Some.entry) in
    let e = shown x in
    let hops : c.hops_left_at-hops.result ≡ hops_of (effective lt e.0) = c.hops_left_at-hops.ensures ∙ ap (λ n. hops_of (effective lt n)) c.view.ensures in
    c.in_ok-push.ensures.items
    ∙ (λ i. c.loop-name.invariant i ++ (e.0, hops i) ∷ [])
    ∙ sym (ap (λ l. map (entry_listed lt) (revised (entry_left_at c.args.now) l)) (map-append shown c.loop-name.yielded (x ∷ []))
    ∙ one_left lt c.args.now es e (sym c.is_left_at.ensures ∙ c.if-is_left_at.true))

pub loop-name-preserved : goal.loop-name-preserved
loop-name-preserved c =
    let t = c.args.self.now.table in
    let lt = left_at c.args.now t in
    let es = map shown c.loop-name.yielded in
    let x : List Field × Bor Entry = (c.in-Some.name, c.in-Some.entry) in
    let e = shown x in
    c.loop-name.invariant
    ∙ sym (ap (λ l. map (entry_listed lt) (revised (entry_left_at c.args.now) l)) (map-append shown c.loop-name.yielded (x ∷ []))
    ∙ none_left lt c.args.now es e (sym c.is_left_at.ensures ∙ c.if-is_left_at.false))
