use Rattle.std.specs.Option.{option_map}
use Rattle.ndn_packets.specs.Link.{IsToken}
use Rattle.ndn_packets.specs.Writing.{AreOctets}
use Rattle.ndn_packets.proofs.WrittenLinks.{token_now, interest_written, data_written}
use Rattle.ndn_packets.proofs.link.put_lp.Goals as goal

pub returns-then-is_err-clause-reads_back : goal.returns-then-is_err-clause-reads_back
returns-then-is_err-clause-reads_back c = λ i is. interest_written (option_map (λ t. t.now) c.args.token) c.args.nack c.args.packet.now i (token_now IsToken c.args.token c.requires) (token_now AreOctets c.args.token c.put_lp_parts-done.ensures.token) c.put_lp_parts-done.ensures.nack is

pub returns-then-is_err-clause-reads_back_data : goal.returns-then-is_err-clause-reads_back_data
returns-then-is_err-clause-reads_back_data c = λ d is none. data_written (option_map (λ t. t.now) c.args.token) c.args.nack c.args.packet.now d (token_now IsToken c.args.token c.requires) (token_now AreOctets c.args.token c.put_lp_parts-done.ensures.token) is none

pub returns-else-is_err-clause-reads_back : goal.returns-else-is_err-clause-reads_back
returns-else-is_err-clause-reads_back c = λ i is. interest_written (option_map (λ t. t.now) c.args.token) c.args.nack c.args.packet.now i (token_now IsToken c.args.token c.requires) (token_now AreOctets c.args.token c.put_lp_parts-done.ensures.token) c.put_lp_parts-done.ensures.nack is

pub returns-else-is_err-clause-reads_back_data : goal.returns-else-is_err-clause-reads_back_data
returns-else-is_err-clause-reads_back_data c = λ d is none. data_written (option_map (λ t. t.now) c.args.token) c.args.nack c.args.packet.now d (token_now IsToken c.args.token c.requires) (token_now AreOctets c.args.token c.put_lp_parts-done.ensures.token) is none
