use Rattle.std.proofs.Common.{subst}
use Rattle.ndn_packets.specs.Writing.{SoundData}
use Rattle.ndn_packets.proofs.Written.{reply_reads_back, reply_signed}
use Rattle.ndn_packets.proofs.data_writer.put_reply.Goals as goal

pub returns-clause-reads_back : goal.returns-clause-reads_back
returns-clause-reads_back c =
    let sound = subst SoundData c.reply-reply.ensures c.value_len.ensures.sound in
    reply_reads_back c.args.name c.args.content.now sound.name sound.content

pub returns-clause-signed : goal.returns-clause-signed
returns-clause-signed c =
    let sound = subst SoundData c.reply-reply.ensures c.value_len.ensures.sound in
    reply_signed c.args.name c.args.content.now sound.name sound.content
