use Rattle.std.proofs.Common.{◌≡◌, ℕ, ◌+◌, List, [], ◌++◌, length, sym, subst, arith, Ok}
use Rattle.std.proofs.lemmas.List.{length-append, append-nil}
use Rattle.ndn_tlv.specs.Number.{spelling, shortest_nni}
use Rattle.ndn_tlv.specs.Element.{element}
use Rattle.ndn_tlv.specs.Writing.{Puts}
use Rattle.ndn_packets.specs.declared.command_types.TheConstants.{COUNT, REPO_COMMAND_RESPONSE, REPO_STATUS_CODE, STATUS_TEXT}
use Rattle.repo_core.specs.Writing.{repo_response}
use Rattle.ndn_tlv.proofs.Appending.{puts_one, puts_both, puts_same}
use Rattle.repo_core.proofs.reply.put_parts.Goals as goal

-- the computed length of a reply's three elements is their actual length
fields_len : (code words number : List ℕ) (a b c : ℕ) → a ≡ length code → b ≡ length words → c ≡ length number
    → a + b + c ≡ length (code ++ (words ++ (number ++ [])))
fields_len code words number a b c p q r =
    omega (arith, p, q, r, length-append code (words ++ (number ++ [])), length-append words (number ++ []), length-append number [])

pub returns : goal.returns
returns c =
    let status = c.from-status.result in
    let code = element (REPO_STATUS_CODE, shortest_nni status) in
    let words = element (STATUS_TEXT, c.args.text.now) in
    let number = element (COUNT, shortest_nni c.args.count) in
    let value = code ++ (words ++ (number ++ [])) in
    let old = c.args.out.now in
    let typed = c.put_number.new.out in
    let headed = c.put_number-2.new.out in
    let coded = c.put_nni_element.new.out in
    let worded = c.put_element.new.out in
    let new = c.put_nni_element-2.new.out in
    let result = c.put_nni_element-2.result in
    let e = c.in_ok-put_number.ensures in
    let f = c.in_ok-put_number-2.ensures in
    let g = c.in_ok-put_element.ensures in
    let first = puts_one old typed (Ok c.in_ok-put_number.field-0) (spelling c.from.result) e.ok e.err e.room e.capacity in
    let second = puts_one typed headed (Ok c.in_ok-put_number-2.field-0) _ f.ok f.err f.room f.capacity in
    let fourth = puts_one coded worded (Ok c.in_ok-put_element.field-0) words g.ok g.err g.room g.capacity in
    let last = puts_same worded new result number (number ++ []) (sym (append-nil number)) c.put_nni_element-2.ensures in
    let size = fields_len code words number _ _ _ c.nni_element_len.ensures.exact c.element_len.ensures.exact c.nni_element_len-2.ensures.exact in
    let all =
    puts_both old typed new _ result (spelling REPO_COMMAND_RESPONSE) _
    (subst (λ (n : ℕ). Puts old typed (Ok c.in_ok-put_number.field-0) (spelling n)) c.from.ensures first)
    (puts_both typed headed new _ result (spelling (length value)) value
    (subst (λ (n : ℕ). Puts typed headed (Ok c.in_ok-put_number-2.field-0) (spelling n)) size second)
    (puts_both headed coded new _ result code _ c.in_ok-put_nni_element.ensures
    (puts_both coded worded new _ result words _ fourth last))) in
    subst (λ (n : ℕ). Puts old new result (repo_response n c.args.text.now c.args.count)) c.from-status.ensures all
