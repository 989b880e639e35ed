-- The position of a next hop in an ordered list, or the position at which to insert it.
use Rattle.std.proofs.Common.{◌≡◌, ℕ, suc, ◌+◌, ◌<◌, ◌≤◌, true, false, cond, List, [], ◌∷◌, ◌++◌, length, get_or, take, drop, refl, sym, ap, subst, ◌∙◌, arith}
use Rattle.std.specs.Prelude.{insert}
use Rattle.std.specs.List.{AllByRecursion}
use Rattle.std.proofs.lemmas.List.{take-append-drop, take_all, take_more, append-nil}
use Rattle.std.proofs.Math.Seq.{drop-cons}
use Rattle.pit_fib.specs.declared.hops.Hop.{Hop}
use Rattle.std.proofs.lemmas.List.Sums.{fold-append}
use Rattle.pit_fib.specs.Hops.{is_before, with_hop, unmarked_hop, in_order}

-- the hop comes before none of these hops
abbrev pub NoneAfter : Hop → List Hop → Type 0
NoneAfter hop hops = AllByRecursion (λ h. is_before hop h ≡ false) hops

none_push : (hop : Hop) (hops : List Hop) (h : Hop) → NoneAfter hop hops → is_before hop h ≡ false → NoneAfter hop (hops ++ h ∷ [])
none_push hop [] h n b = (b, tt)
none_push hop (x ∷ hops) h n b = (n.0, none_push hop hops h n.1 b)

pub none_more : (hop : Hop) (hops : List Hop) (at : ℕ) (h : Hop) → at < length hops → h ≡ get_or hops at h → NoneAfter hop (take at hops) → is_before hop h ≡ false → NoneAfter hop (take (at + 1) hops)
none_more hop hops at h lt is n b =
    subst (NoneAfter hop) (sym (take_more hops at h lt ∙ ap (λ x. take at hops ++ x ∷ []) (sym is))) (none_push hop (take at hops) h n b)

with_past : (hop : Hop) (front rest : List Hop) → NoneAfter hop front → with_hop hop (front ++ rest) ≡ front ++ with_hop hop rest
with_past hop [] rest n = refl
with_past hop (h ∷ front) rest n =
    ap (λ b. cond b (hop ∷ h ∷ (front ++ rest)) (h ∷ with_hop hop (front ++ rest))) n.0 ∙ ap (λ l. h ∷ l) (with_past hop front rest n.1)

pub hop_gap : (hop : Hop) (hops : List Hop) (at : ℕ) (h : Hop) → at < length hops → h ≡ get_or hops at h → NoneAfter hop (take at hops) → is_before hop h ≡ true → with_hop hop hops ≡ insert hops at hop
hop_gap hop hops at h lt is n b =
    let rest : drop at hops ≡ h ∷ drop (suc at) hops = drop-cons hops at h lt ∙ ap (λ x. x ∷ drop (suc at) hops) (sym is) in
    let split : hops ≡ take at hops ++ h ∷ drop (suc at) hops = sym (take-append-drop at hops) ∙ ap (λ l. take at hops ++ l) rest in
    ap (with_hop hop) split ∙ with_past hop (take at hops) (h ∷ drop (suc at) hops) n
    ∙ ap (λ b. take at hops ++ cond b (hop ∷ h ∷ drop (suc at) hops) (h ∷ with_hop hop (drop (suc at) hops))) b
    ∙ ap (λ l. take at hops ++ hop ∷ l) (sym rest)

pub hop_end : (hop : Hop) (hops : List Hop) (n : ℕ) → length hops ≤ n → NoneAfter hop (take n hops) → with_hop hop hops ≡ insert hops (length hops) hop
hop_end hop hops n le none =
    let all : NoneAfter hop hops = subst (NoneAfter hop) (take_all n hops le) none in
    ap (with_hop hop) (sym (append-nil hops)) ∙ with_past hop hops [] all
    ∙ ap (λ l. l ++ hop ∷ []) (sym (take_all (length hops) hops (omega arith)))
    ∙ ap (λ l. take (length hops) hops ++ hop ∷ l) (sym (drop_end hops))
  where
    drop_end : (l : List Hop) → drop (length l) l ≡ []
    drop_end [] = refl
    drop_end (x ∷ l) = drop_end l

length-with_hop : (hop : Hop) (hops : List Hop) → length (with_hop hop hops) ≡ suc (length hops)
length-with_hop hop [] = refl
length-with_hop hop (h ∷ hops) =
    elim (is_before hop h) as (λ b. length (cond b (hop ∷ h ∷ hops) (h ∷ with_hop hop hops)) ≡ suc (suc (length hops))) [ true ↦ refl | false ↦ ap suc (length-with_hop hop hops) ]

pub ordered_more : (costs : List (ℕ × ℕ)) (i : ℕ) (d : ℕ × ℕ) → i < length costs → in_order (take (i + 1) costs) ≡ with_hop (unmarked_hop (get_or costs i d)) (in_order (take i costs))
ordered_more costs i d lt =
    ap in_order (take_more costs i d lt) ∙ fold-append (λ (hops : List Hop) (e : ℕ × ℕ). with_hop (unmarked_hop e) hops) [] (take i costs) (get_or costs i d ∷ [])

pub length-ordered : (hop : Hop) (hops now : List Hop) (n : ℕ) → now ≡ with_hop hop hops → length hops ≤ n → length now ≤ n + 1
length-ordered hop hops now n is le = omega (arith, ap length is, length-with_hop hop hops)
