use Rattle.forwarder.proofs.AskedFor.{sent_was_asked_for, unread_is_own}
use Rattle.forwarder.proofs.law.every_data_sent_was_asked_for.Goals as goal

pub returns-clause-read : goal.returns-clause-read
returns-clause-read c = λ first past event answer face octets whole d reply none is fits sent read. sent_was_asked_for first past event answer reply none is fits face octets whole d sent read

pub returns-clause-unread : goal.returns-clause-unread
returns-clause-unread c = λ first past event answer face octets reply none is fits sent data' unread. unread_is_own first past event answer reply none is fits face octets sent data' unread
