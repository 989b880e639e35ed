-- Two writes of known octets, one after the other, have the effect of one write. Two reads of known
-- octets, one after the other, have the effect of one read.
use Rattle.std.proofs.Common.{ℕ, List, [], ◌++◌, refl, sym, ap, ◌∙◌, append_assoc, append-nil}
use Rattle.std.specs.Prelude.{Option, Some, None}
use Rattle.std.specs.Io.KnownBytes.{Appends, Consumes, Keeps}
use Rattle.node_core.specs.Script.Ending.{AppendsFront}

pub Appends-start : (known : Option (List ℕ)) → Appends known known []
Appends-start None = tt
Appends-start (Some xs) = sym (append-nil xs)

pub Appends-then : (a b c : Option (List ℕ)) (x y : List ℕ) → Appends a b x → Appends b c y → Appends a c (x ++ y)
Appends-then None b c x y h k = tt
Appends-then (Some a) None c x y h k = absurd h
Appends-then (Some a) (Some b) None x y h k = absurd k
Appends-then (Some a) (Some b) (Some c) x y h k = k ∙ ap (λ (w : List ℕ). w ++ y) h ∙ append_assoc a x y

pub Appends-kept : (a b c : Option (List ℕ)) (x : List ℕ) → Appends a b x → Keeps b c → Appends a c x
Appends-kept None b c x h k = tt
Appends-kept (Some a) None c x h k = absurd h
Appends-kept (Some a) (Some b) None x h k = absurd k
Appends-kept (Some a) (Some b) (Some c) x h k = k ∙ h

pub Keeps-from_none : (a b : Option (List ℕ)) → Appends a b [] → Keeps a b
Keeps-from_none None b h = tt
Keeps-from_none (Some a) None h = absurd h
Keeps-from_none (Some a) (Some b) h = h ∙ append-nil a

pub none-from_Keeps : (a b : Option (List ℕ)) → Keeps a b → Appends a b []
none-from_Keeps None b h = tt
none-from_Keeps (Some a) None h = absurd h
none-from_Keeps (Some a) (Some b) h = h ∙ sym (append-nil a)

pub Consumes-start : (known : Option (List ℕ)) → Consumes known known []
Consumes-start None = tt
Consumes-start (Some xs) = refl

pub Consumes-then : (a b c : Option (List ℕ)) (x y : List ℕ) → Consumes a b x → Consumes b c y → Consumes a c (x ++ y)
Consumes-then None b c x y h k = tt
Consumes-then (Some a) None c x y h k = absurd h
Consumes-then (Some a) (Some b) None x y h k = absurd k
Consumes-then (Some a) (Some b) (Some c) x y h k = h ∙ ap (λ (w : List ℕ). x ++ w) k ∙ sym (append_assoc x y c)

pub Consumes-kept : (a b c : Option (List ℕ)) (x : List ℕ) → Consumes a b x → Keeps b c → Consumes a c x
Consumes-kept None b c x h k = tt
Consumes-kept (Some a) None c x h k = absurd h
Consumes-kept (Some a) (Some b) None x h k = absurd k
Consumes-kept (Some a) (Some b) (Some c) x h k = h ∙ ap (λ (w : List ℕ). x ++ w) (sym k)

-- if a whole text is written, and a prefix of a second text is written after it, then a prefix of
-- the concatenation of the two texts is written
pub AppendsFront-after : (a b c : Option (List ℕ)) (x y : List ℕ) → Appends a b x → AppendsFront b c y → AppendsFront a c (x ++ y)
AppendsFront-after a b c x y h k = (x ++ k.0, k.1, ap (λ (w : List ℕ). x ++ w) k.2 ∙ sym (append_assoc x k.0 k.1), Appends-then a b c x k.0 h k.3)

pub AppendsFront-all : (a b : Option (List ℕ)) (x : List ℕ) → Appends a b x → AppendsFront a b x
AppendsFront-all a b x h = (x, [], sym (append-nil x), h)
