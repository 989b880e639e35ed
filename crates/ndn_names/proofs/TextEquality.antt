-- Comparing names by their texts.
use Rattle.std.proofs.Common.{◌≡◌, ◌≢◌, ℕ, suc, ◌+◌, ◌-◌, ◌<◌, List, [], ◌∷◌, ◌++◌, length, take, Result, Ok, Err, refl, sym, ap, ◌∙◌, arith}
use Rattle.std.specs.Prelude.{◌↔◌}
use Rattle.std.proofs.lemmas.List.{append-nil, append_cancel_left, length-append, take_all}
use Rattle.ndn_tlv.specs.Element.{Field}
use Rattle.ndn_tlv.specs.Reading.{◌>>=◌}
use Rattle.ndn_names.specs.declared.fault.NameFault.{NameFault}
use Rattle.ndn_names.specs.declared.fault.NameFault.TheVariants.{TooManyComponents}
use Rattle.ndn_names.specs.declared.component_text.ValueText.{ValueText}
use Rattle.ndn_names.specs.declared.component_text.ValueText.TheVariants.{Plain, Escaped, Hexadecimal, Number}
use Rattle.ndn_names.specs.ComponentText.{SaysFirst, value_in}
use Rattle.ndn_names.specs.UriReading.{before, octets_in, component_in, components_in, pieces_of, name_in}
use Rattle.ndn_names.proofs.Names.{bind_ok, done, done_is}
use Rattle.ndn_names.specs.ReadsAs.{ReadsAs}
use Rattle.ndn_names.proofs.ComponentTexts.{before_found}
use Rattle.ndn_names.proofs.PathReading.{counted_found, pieces_none, text_found, text_again}
use Rattle.ndn_names.proofs.NameReading.{named, HasNamed, named_full}

-- ---- comparing the octets that two texts read as

-- if `first ∷ rest` begins with `octet ∷ octets`, then `first` equals `octet`, and `rest` begins
-- with `octets`
pub said_first : (said rest octets : List ℕ) (first octet : ℕ) → said ≡ first ∷ rest → take (suc (length octets)) said ≡ octet ∷ octets → (first ≡ octet) × (take (length octets) rest ≡ octets)
said_first said rest octets first octet e h =
    let both : first ∷ take (length octets) rest ≡ octet ∷ octets = sym (ap (take (suc (length octets))) e) ∙ h in
    (cc, cc)

-- if `text` reads as `first` followed by the octets that `rest` reads as, and `text` reads as
-- octets that begin with `octet ∷ octets`, then `first` equals `octet`, and `rest` reads as octets
-- that begin with `octets`
pub read_first : (reading : List ℕ → Result (List ℕ) NameFault) (text rest octets : List ℕ) (first octet : ℕ) → reading text ≡ before first (reading rest) → (said : List ℕ) → reading text ≡ Ok said
    → take (suc (length octets)) said ≡ octet ∷ octets → (first ≡ octet) × ((others : List ℕ) × (reading rest ≡ Ok others) × (take (length octets) others ≡ octets))
read_first reading text rest octets first octet e said read h =
    let found = before_found first (reading rest) said (sym e ∙ read) in
    let here = said_first said found.0 octets first octet found.2 h in
    (here.0, (found.0, found.1, here.1))

-- The octets that `a` encodes begin with `x_left`, and the octets that `b` encodes begin with
-- `y_left`. The lists `x_left` and `y_left` have `left` octets each, and are equal exactly if the
-- values `x` and `y` are equal.
pub record AreLeft (left : ℕ) (a b : ValueText) (x y : List ℕ) : Type 0 where
  pub x_left : List ℕ
  pub y_left : List ℕ
  pub a_long : left ≡ length x_left
  pub b_long : left ≡ length y_left
  pub a_says : SaysFirst a x_left
  pub b_says : SaysFirst b y_left
  pub same : (x ≡ y) ↔ (x_left ≡ y_left)

-- if the octets that `value` encodes begin with `octet` followed by `octets`, then `octet` is
-- `first`, and the octets that `after` encodes begin with `octets`
abbrev pub Begins : ValueText → ℕ → ValueText → Type 0
Begins value first after = (octet : ℕ) (octets : List ℕ) → SaysFirst value (octet ∷ octets) → (first ≡ octet) × SaysFirst after octets

abbrev pub SaysNothing : ValueText → Type 0
SaysNothing value = (octet : ℕ) (octets : List ℕ) → SaysFirst value (octet ∷ octets) → ⊥

pub all_left : (left : ℕ) (a b : ValueText) (x y : List ℕ) → SaysFirst a x → SaysFirst b y → left ≡ length x → left ≡ length y → AreLeft left a b x y
all_left left a b x y a_says b_says a_long b_long =
    record { x_left = x; y_left = y; a_long = a_long; b_long = b_long; a_says = a_says; b_says = b_says; same = (λ e. e, λ e. e) }

some_said : (left : ℕ) (value : ValueText) (xs : List ℕ) → 0 < left → left ≡ length xs → SaysFirst value xs → SaysNothing value → ⊥
some_said left value [] some long says none = absurd (omega arith)
some_said left value (o ∷ xs) some long says none = none o xs says

pub a_ends : (left : ℕ) (a b : ValueText) (x y : List ℕ) → AreLeft left a b x y → 0 < left → SaysNothing a → ⊥
a_ends left a b x y h some none = some_said left a h.x_left some h.a_long h.a_says none

pub b_ends : (left : ℕ) (a b : ValueText) (x y : List ℕ) → AreLeft left a b x y → 0 < left → SaysNothing b → ⊥
b_ends left a b x y h some none = some_said left b h.y_left some h.b_long h.b_says none

pub one_less : (left : ℕ) (a b a_after b_after : ValueText) (x y : List ℕ) (first second : ℕ) → AreLeft left a b x y → 0 < left → Begins a first a_after → Begins b second b_after → first ≡ second
    → AreLeft (left - 1) a_after b_after x y
one_less left a b a_after b_after x y first second h some a_begins b_begins equal = less h.x_left h.y_left h.a_long h.b_long h.a_says h.b_says h.same
  where
    less : (xs ys : List ℕ) → left ≡ length xs → left ≡ length ys → SaysFirst a xs → SaysFirst b ys → (x ≡ y) ↔ (xs ≡ ys) → AreLeft (left - 1) a_after b_after x y
    less [] ys a_long b_long a_says b_says same = absurd (omega arith)
    less (o ∷ xs) [] a_long b_long a_says b_says same = absurd (omega arith)
    less (o ∷ xs) (p ∷ ys) a_long b_long a_says b_says same =
        let u = a_begins o xs a_says in
        let v = b_begins p ys b_says in
        let heads : o ≡ p = sym u.0 ∙ equal ∙ v.0 in
        record {
          x_left = xs;
          y_left = ys;
          a_long = omega arith;
          b_long = omega arith;
          a_says = u.1;
          b_says = v.1;
          same = (λ e. (let both : o ∷ xs ≡ p ∷ ys = same.0 e in cc), λ e. same.1 (λ i. heads i ∷ e i));
        }

pub octets_apart : (left : ℕ) (a b a_after b_after : ValueText) (x y : List ℕ) (first second : ℕ) → AreLeft left a b x y → 0 < left → Begins a first a_after → Begins b second b_after → first ≢ second → x ≢ y
octets_apart left a b a_after b_after x y first second h some a_begins b_begins other = apart h.x_left h.y_left h.a_long h.b_long h.a_says h.b_says h.same
  where
    apart : (xs ys : List ℕ) → left ≡ length xs → left ≡ length ys → SaysFirst a xs → SaysFirst b ys → (x ≡ y) ↔ (xs ≡ ys) → x ≢ y
    apart [] ys a_long b_long a_says b_says same e = absurd (omega arith)
    apart (o ∷ xs) [] a_long b_long a_says b_says same e = absurd (omega arith)
    apart (o ∷ xs) (p ∷ ys) a_long b_long a_says b_says same e =
        let u = a_begins o xs a_says in
        let v = b_begins p ys b_says in
        let both : o ∷ xs ≡ p ∷ ys = same.0 e in
        let heads : o ≡ p = cc in
        other (u.0 ∙ heads ∙ sym v.0)

pub none_left : (left : ℕ) (a b : ValueText) (x y : List ℕ) → AreLeft left a b x y → left ≡ 0 → x ≡ y
none_left left a b x y h none = h.same.1 (empty h.x_left h.y_left h.a_long h.b_long)
  where
    empty : (xs ys : List ℕ) → left ≡ length xs → left ≡ length ys → xs ≡ ys
    empty [] [] a_long b_long = refl
    empty [] (p ∷ ys) a_long b_long = absurd (omega arith)
    empty (o ∷ xs) ys a_long b_long = absurd (omega arith)

-- ---- equality of components

pub fields_apart : (x y : Field) → ((x.0 ≡ y.0) → (x.1 ≡ y.1) → ⊥) → x ≢ y
fields_apart x y h e = h (ap (λ (f : Field). f.0) e) (ap (λ (f : Field). f.1) e)

pub same_field : (x y : Field) → x.0 ≡ y.0 → x.1 ≡ y.1 → x ≡ y
same_field x y kinds values = λ i. (kinds i, values i)

-- ---- comparing names piece by piece

named_ok : (cs : List Field) (r : Result (List Field) NameFault) (all : List Field) → named cs r ≡ Ok all → (ds : List Field) × (r ≡ Ok ds) × (all ≡ cs ++ ds)
named_ok cs (Ok ds) all e = (ds, refl, sym (done_is (cs ++ ds) all e))
named_ok cs (Err fault) all e = absurd cc

-- The name `all` consists of the components `cs`, then the component `c` that `piece` reads as, and
-- then the components `ds`.
pub record HasNext (cs : List Field) (piece : List ℕ) (all : List Field) : Type 0 where
  pub c : Field
  pub ds : List Field
  pub reads : component_in piece ≡ Ok c
  pub whole : all ≡ cs ++ c ∷ ds

pub next_named : (count : ℕ) (cs : List Field) (text rest piece after : List ℕ) (all : List Field) → HasNamed count cs text rest → pieces_of rest ≡ piece ∷ pieces_of after → components_in 0 (pieces_of text) ≡ Ok all
    → HasNext cs piece all
next_named count cs text rest piece after all h split e =
    let read = named_ok cs (components_in count (pieces_of rest)) all (sym h.2 ∙ e) in
    let here = bind_ok _ (λ c. components_in (count + 1) (pieces_of after) >>= λ ds. Ok (c ∷ ds)) read.0 (sym (ap (components_in count) split) ∙ read.1) in
    let found = counted_found count (component_in piece) here.0 here.1 in
    let others = bind_ok (components_in (count + 1) (pieces_of after)) (λ ds. Ok (here.0 ∷ ds)) read.0 here.2 in
    record { c = here.0; ds = others.0; reads = found.1; whole = read.2 ∙ ap (λ (ds : List Field). cs ++ ds) (sym (done_is (here.0 ∷ others.0) read.0 others.2)) }

pub last_named : (count : ℕ) (cs : List Field) (text rest : List ℕ) → HasNamed count cs text rest → rest ≡ [] → components_in 0 (pieces_of text) ≡ Ok cs
last_named count cs text rest h none = h.2 ∙ ap (λ (t : List ℕ). named cs (components_in count (pieces_of t))) none ∙ ap (λ (ds : List Field). Ok ds) (append-nil cs)

pub too_many : (count : ℕ) (cs : List Field) (text rest : List ℕ) → HasNamed count cs text rest → count ≡ 64 → rest ≢ [] → (all : List Field) → components_in 0 (pieces_of text) ≡ Ok all → ⊥
too_many count cs text rest h full some all e = let both : Err TooManyComponents ≡ Ok all = sym (named_full count cs text rest h full some) ∙ e in absurd cc

-- the pieces of the text `a` and those of the text `b` read as the same list of components
abbrev pub AreOne : List ℕ → List ℕ → Type 0
AreOne a b = (cs : List Field) × (components_in 0 (pieces_of a) ≡ Ok cs) × (components_in 0 (pieces_of b) ≡ Ok cs)

abbrev pub AreOnePiece : List ℕ → List ℕ → Type 0
AreOnePiece a b = (c : Field) × (component_in a ≡ Ok c) × (component_in b ≡ Ok c)

pub pieces_apart : (count : ℕ) (cs : List Field) (a b a_rest b_rest a_piece b_piece a_after b_after : List ℕ) → HasNamed count cs a a_rest → HasNamed count cs b b_rest
    → pieces_of a_rest ≡ a_piece ∷ pieces_of a_after → pieces_of b_rest ≡ b_piece ∷ pieces_of b_after → (AreOnePiece a_piece b_piece → ⊥) → AreOne a b → ⊥
pieces_apart count cs a b a_rest b_rest a_piece b_piece a_after b_after ha hb sa sb other one =
    let x = next_named count cs a a_rest a_piece a_after one.0 ha sa one.1 in
    let y = next_named count cs b b_rest b_piece b_after one.0 hb sb one.2 in
    let tails : x.c ∷ x.ds ≡ y.c ∷ y.ds = append_cancel_left cs (x.c ∷ x.ds) (y.c ∷ y.ds) (sym x.whole ∙ y.whole) in
    let heads : x.c ≡ y.c = cc in
    other (x.c, x.reads, y.reads ∙ ap (λ (c : Field). Ok c) (sym heads))

some_long : (c : Field) (ds all : List Field) → done (c ∷ ds) ≡ Ok all → 0 < length all
some_long c ds all e = let whole : length (c ∷ ds) ≡ length all = ap length (done_is (c ∷ ds) all e) in omega arith

-- if two texts begin with the same components `cs`, and only the second text continues after these
-- components, the texts do not read as the same name
pub longer : (count : ℕ) (cs : List Field) (a b a_rest b_rest : List ℕ) → HasNamed count cs a a_rest → HasNamed count cs b b_rest → a_rest ≡ [] → b_rest ≢ [] → (all : List Field)
    → components_in 0 (pieces_of a) ≡ Ok all → components_in 0 (pieces_of b) ≡ Ok all → ⊥
longer count cs a b a_rest b_rest ha hb none some all ea eb = further (pieces_of b_rest) refl
  where
    is : cs ≡ all
    is = done_is cs all (sym (last_named count cs a a_rest ha none) ∙ ea)

    further : (pieces : List (List ℕ)) → pieces_of b_rest ≡ pieces → ⊥
    further [] e = some (pieces_none b_rest e)
    further (piece ∷ pieces) e =
        let read = named_ok cs (components_in count (pieces_of b_rest)) all (sym hb.2 ∙ eb) in
        let here = bind_ok _ (λ c. components_in (count + 1) pieces >>= λ ds. Ok (c ∷ ds)) read.0 (sym (ap (components_in count) e) ∙ read.1) in
        let others = bind_ok (components_in (count + 1) pieces) (λ ds. Ok (here.0 ∷ ds)) read.0 here.2 in
        omega (arith, some_long here.0 others.0 read.0 others.2, ap length is, ap length read.2, length-append cs read.0)

-- ---- comparing the whole texts of names

pub both_named : (a b a_path b_path : List ℕ) → name_in a ≡ components_in 0 (pieces_of a_path) → name_in b ≡ components_in 0 (pieces_of b_path) → (cs : List Field) → ReadsAs a cs → ReadsAs b cs → AreOne a_path b_path
both_named a b a_path b_path ea eb cs ra rb = (cs, sym ea ∙ text_again a cs ra, sym eb ∙ text_again b cs rb)

pub one_name : (a b a_path b_path : List ℕ) → name_in a ≡ components_in 0 (pieces_of a_path) → name_in b ≡ components_in 0 (pieces_of b_path) → AreOne a_path b_path → (cs : List Field) × ReadsAs a cs × ReadsAs b cs
one_name a b a_path b_path ea eb one = (one.0, text_found a one.0 (ea ∙ one.1), text_found b one.0 (eb ∙ one.2))

-- ---- the octets that the text of a value reads as

pub value_said : (len : ℕ) (value : ValueText) (octets : List ℕ) → ((n : ℕ) → value ≡ Number n → ⊥) → len ≡ length octets → value_in len value ≡ Ok octets → SaysFirst value octets
value_said len (Plain text) octets other long e = (text.now, refl, ap (take (length octets)) (done_is text.now octets e) ∙ take_all (length octets) octets (omega arith))
value_said len (Escaped text) octets other long e =
    let read = bind_ok (octets_in text.now) (λ said. Ok (take len said)) octets e in
    (read.0, read.1, ap (λ (k : ℕ). take k read.0) (sym long) ∙ done_is (take len read.0) octets read.2)
value_said len (Hexadecimal text) octets other long e = (octets, e, take_all (length octets) octets (omega arith))
value_said len (Number n) octets other long e = absurd (other n refl)
