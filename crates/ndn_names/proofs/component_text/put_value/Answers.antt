use Rattle.std.proofs.Common.{take, sym, ap, ◌∙◌, arith, ◌≡◌, ◌++◌, List, ℕ, Ok}
use Rattle.std.proofs.Common.{Result, length, ◌+◌}
use Rattle.std.specs.Prelude.{min}
use Rattle.std.proofs.Common.{length-append}
use Rattle.std.proofs.lemmas.List.{length-take}
use Rattle.std.proofs.Math.Seq.{take-append-add}
use Rattle.ndn_tlv.specs.Reading.{◌>>=◌}
use Rattle.ndn_names.specs.declared.fault.NameFault.{NameFault}
use Rattle.ndn_names.specs.ComponentText.{value_in}
use Rattle.ndn_names.specs.declared.component_text.ValueText.TheVariants.{Plain, Escaped, Hexadecimal, Number}
use Rattle.ndn_names.proofs.component_text.put_value.Goals as goal

pub returns-in_ok-extend_from_slice-in-Plain-clause-ok : goal.returns-in_ok-extend_from_slice-in-Plain-clause-ok
returns-in_ok-extend_from_slice-in-Plain-clause-ok c =
    λ d h.
    let read : value_in c.args.component.len (Plain c.in-Plain.octets) ≡ Ok d.1 = ap (value_in c.args.component.len) (sym c.in-Plain.is) ∙ h.2 in
    let octets : c.in-Plain.octets.now ≡ d.1 = cc in
    c.in_ok-extend_from_slice-in-Plain.ensures.items ∙ ap (λ (t : List ℕ). c.args.out.now.items ++ t) octets

pub returns-in_ok-put_hexadecimal-in-Hexadecimal-clause-ok : goal.returns-in_ok-put_hexadecimal-in-Hexadecimal-clause-ok
returns-in_ok-put_hexadecimal-in-Hexadecimal-clause-ok c =
    λ d h.
    let put = c.in_ok-put_hexadecimal-in-Hexadecimal.ensures in
    let read : value_in c.args.component.len (Hexadecimal c.in-Hexadecimal.text) ≡ Ok d.1 = ap (value_in c.args.component.len) (sym c.in-Hexadecimal.is) ∙ h.2 in
    let octets : put.0 ≡ d.1 = cc (put.1, read) in
    put.2 ∙ ap (λ (t : List ℕ). c.args.out.now.items ++ t) octets

pub returns-in_ok-put_nni-in-Number-clause-ok : goal.returns-in_ok-put_nni-in-Number-clause-ok
returns-in_ok-put_nni-in-Number-clause-ok c =
    λ d h.
    let read : value_in c.args.component.len (Number c.in-Number.number) ≡ Ok d.1 = ap (value_in c.args.component.len) (sym c.in-Number.is) ∙ h.2 in
    c.in_ok-put_nni-in-Number.ensures.ok ∙ ap (λ (t : List ℕ). c.args.out.now.items ++ t) (cc)

pub returns-in_ok-put_escaped-in-Escaped-clause-ok : goal.returns-in_ok-put_escaped-in-Escaped-clause-ok
returns-in_ok-put_escaped-in-Escaped-clause-ok c =
    λ d h.
    let put = c.in_ok-put_escaped-in-Escaped.ensures in
    let read : value_in c.args.component.len (Escaped c.in-Escaped.text) ≡ Ok d.1 = ap (value_in c.args.component.len) (sym c.in-Escaped.is) ∙ h.2 in
    let cut : Ok (take c.args.component.len put.0) ≡ Ok d.1 = ap (λ (r : Result (List ℕ) NameFault). r >>= λ octets. Ok (take c.args.component.len octets)) (sym put.1) ∙ read in
    let value : take c.args.component.len put.0 ≡ d.1 = cc (cut) in
    let all : length c.put_escaped.new.out.items ≡ length c.args.out.now.items + length put.0 = ap length put.2 ∙ length-append c.args.out.now.items put.0 in
    let part : length d.1 ≡ min c.args.component.len (length put.0) = sym (ap length value) ∙ length-take c.args.component.len put.0 in
    let end : c.saturating_add-end.result ≡ length c.args.out.now.items + c.args.component.len =
    omega (arith, all, part, h.1, c.saturating_add-end.ensures, c.len.ensures, c.args.out.now.ok.0, c.put_escaped.new.out.ok.0, c.put_escaped.new.out.ok.1, c.put_escaped.new.out.small) in
    c.truncate.ensures.items ∙ ap (take c.saturating_add-end.result) put.2
    ∙ ap (λ (k : ℕ). take k (c.args.out.now.items ++ put.0)) end
    ∙ take-append-add c.args.out.now.items put.0 c.args.component.len
    ∙ ap (λ (t : List ℕ). c.args.out.now.items ++ t) value
