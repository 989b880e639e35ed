use Rattle.std.proofs.Common.{◌≡◌, ℕ, Bool, true, false, not, cond, length, refl, sym, ap, ◌∙◌, arith, eqb, ltb}
use Rattle.std.proofs.lemmas.Bool.Decides.{nat_tests}
use Rattle.std.specs.Prelude.{None, Some, is_some, ◌&&◌}
use Rattle.std.specs.FinMap.{len, len-entries}
use Rattle.name_trie.specs.ByName.{revise}
use Rattle.name_trie.proofs.Least.{entries-revise}
use Rattle.pit_fib.specs.Fib.{Entry, entry_left_at}
use Rattle.pit_fib.specs.Route.{route_cmp, until_due}
use Rattle.pit_fib.specs.Tally.{left_of}
use Rattle.pit_fib.proofs.fib_entry.Entry.is_left_at.Goals as goal

some_if : {X : Type 0} (b : Bool) (x : X) → is_some (cond b None (Some x)) ≡ not b
some_if true x = refl
some_if false x = refl

above_none : (n : ℕ) → ltb 0 n ≡ not (eqb n 0)
above_none n = grind (arith, nat_tests)

pub returns-else-len-gt0 : goal.returns-else-len-gt0
returns-else-len-gt0 c =
    let now = c.args.now in
    let e = c.self.inside in
    let left : c.left_of.result ≡ len (revise (until_due now) e.registered) =
    c.left_of.ensures ∙ ap (left_of now) c.rows.ensures.rows ∙ sym (len-entries (revise (until_due now) e.registered) ∙ ap length (entries-revise route_cmp (until_due now) e.registered)) in
    let none : len e.hops ≡ 0 = (let no = c.if-len-gt0.false in let is = c.len.ensures.exact in omega (arith, no, is)) in
    above_none c.left_of.result
    ∙ ap (λ n. not (eqb n 0)) left
    ∙ ap (λ n. not (eqb n 0 && eqb (len (revise (until_due now) e.registered)) 0)) (sym none)
    ∙ sym (some_if (eqb (len e.hops) 0 && eqb (len (revise (until_due now) e.registered)) 0) (record { hops = e.hops; registered = revise (until_due now) e.registered }))
    ∙ ap (λ (e : Entry). is_some (entry_left_at now e)) c.self.view_is
