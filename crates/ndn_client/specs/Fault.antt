-- The message and the exit status of each fault of the program.
use Rattle.std.specs.Prelude.{ℕ, List, ◌++◌, codes, Option, Some, string_bytes}
use Rattle.std.specs.Net.Text.{socket_text}
use Rattle.key_files.specs.declared.fault.KeyFault.{KeyFault}
use Rattle.key_files.specs.declared.fault.KeyFault.TheVariants.{BadLine, BadKey, TwiceNamed, TooMany, Memory as KeyMemory}
use Rattle.file_faults.specs.Advice.{cause_of, key_text}
use Rattle.ndn_names.specs.Uri.{uri_of}
use Rattle.ndn_jobs.specs.Fault.{tool_status, tool_text}
use Rattle.ndn_requests.specs.declared.fault.Silence.{Silence}
use Rattle.ndn_requests.specs.declared.fault.Silence.TheVariants.{Closed, Far, Late, Changed}
use Rattle.ndn_requests.specs.declared.fault.Failure.{Failure}
use Rattle.ndn_requests.specs.declared.fault.Failure.TheVariants.{Refused, NoStatus, Nack, Silent}
use Rattle.ndn_requests.specs.Fault.{silence_text, failure_text}
use Rattle.ndn_segments.specs.declared.fault.SegmentFault.{SegmentFault}
use Rattle.ndn_segments.specs.declared.fault.SegmentFault.TheVariants.{OtherFile, NoSegmentNumber, NoFinalBlockId, OtherFinalBlockId, AboveLast, ContentTooLong, BeyondWindow, OtherContent, Memory as SegmentMemory}
use Rattle.certificates.specs.declared.fault.CertificateFault.{CertificateFault}
use Rattle.certificates.specs.declared.fault.CertificateFault.TheVariants as certificate
use Rattle.ndn_client.specs.declared.fault.Fault.{Fault}
use Rattle.ndn_client.specs.declared.fault.Fault.TheVariants as fault

abbrev pub key_status : KeyFault → ℕ
key_status (BadLine line) = 1
key_status (BadKey line) = 1
key_status (TwiceNamed line) = 1
key_status TooMany = 1
key_status KeyMemory = 3

abbrev pub silence_status : Silence → ℕ
silence_status Closed = 6
silence_status Far = 5
silence_status Late = 5
silence_status Changed = 5

-- the exit status of a request that was not done: 1 if the answer says so, 4 for a Nack, 5 if no
-- answer came in time, and 6 if no program listens on the port
abbrev pub failure_status : Failure → ℕ
failure_status Refused = 1
failure_status NoStatus = 1
failure_status Nack = 4
failure_status (Silent why) = silence_status why

-- why a Data is no segment of a file
abbrev pub segment_words : SegmentFault → List ℕ
segment_words OtherFile = codes "its name belongs to another file"
segment_words NoSegmentNumber = codes "its name has no segment number"
segment_words NoFinalBlockId = codes "it has no FinalBlockId"
segment_words OtherFinalBlockId = codes "its FinalBlockId is not that of the segments before"
segment_words AboveLast = codes "its number is above that in its FinalBlockId"
segment_words ContentTooLong = codes "its Content is too long"
segment_words BeyondWindow = codes "it is too far ahead"
segment_words OtherContent = codes "it came before with another Content"
segment_words SegmentMemory = codes "out of memory"

abbrev pub certificate_status : CertificateFault → ℕ
certificate_status certificate.NoBase64 = 1
certificate_status certificate.NoData = 1
certificate_status certificate.NoCertificateName = 1
certificate_status certificate.NoContent = 1
certificate_status certificate.OtherKey = 1
certificate_status (certificate.BadPoint why) = 1
certificate_status certificate.Memory = 3

-- why a file has no certificate with a P-256 key, and what to do
unfoldable pub certificate_words : CertificateFault → List ℕ
certificate_words certificate.NoBase64 =
    codes "it is not the base64 text of a certificate; give what ndnsec cert-dump prints"
certificate_words certificate.NoData =
    codes "it is not exactly one Data packet; give one certificate, as ndnsec cert-dump prints it"
certificate_words certificate.NoCertificateName =
    codes "its Data has no name that ends with /KEY/KEYID/ISSUER/VERSION; give a certificate"
certificate_words certificate.NoContent =
    codes "its Data has no Content; give a certificate with a public key"
certificate_words certificate.OtherKey =
    codes "its key is no uncompressed P-256 key with a named curve; use a P-256 key"
certificate_words (certificate.BadPoint why) =
    codes "its key is no point of the curve P-256; get the certificate again from its owner"
certificate_words certificate.Memory = codes "out of memory"

-- The exit status. It is 1 if a key is named without a key file, or if the key file is too large or
-- its content has a fault, if a Data is no segment of the file, if a repository does not take a
-- Data, or if a file has no certificate with a P-256 key. It is 2 if an argument is not UTF-8. It is 3 if reading, writing or
-- sending failed, if a port could not be bound, if memory ran out, or if no answer came to the
-- packet of `send`. It is 7 if the signature of the answer is wrong. A request that was not done,
-- and the fault of a job, have their own exit statuses.
abbrev pub status_of : Fault → ℕ
status_of (fault.Tool why) = tool_status why
status_of fault.NoKeyFile = 1
status_of fault.NotText = 2
status_of (fault.Keys why) = key_status why
status_of fault.LargeKeys = 1
status_of (fault.Unread path kind) = 3
status_of fault.Clock = 3
status_of fault.Write = 3
status_of fault.Input = 3
status_of fault.Send = 3
status_of (fault.Unbound endpoint) = 3
status_of (fault.Silent why) = 3
status_of (fault.NotDone why) = failure_status why
status_of (fault.Forged name) = 7
status_of (fault.NotSegment name why) = 1
status_of (fault.Unanswered name) = 5
status_of (fault.NotTaken name) = 1
status_of (fault.NoFile path kind) = 3
status_of (fault.NoCertificate path why) = certificate_status why
status_of (fault.LargeCertificate path) = 1
status_of fault.Shortened = 3
status_of (fault.Unwritten path kind) = 3

-- the message for standard error, which ends with an LF, or None if the command-line parser makes
-- the message
abbrev pub text_of : Fault → Option (List ℕ)
text_of (fault.Tool why) = tool_text why
text_of fault.NoKeyFile = Some (codes "key not found\ngive --keys\n")
text_of fault.NotText = Some (codes "error: an argument is not UTF-8 text\n")
text_of (fault.Keys why) = Some (key_text why)
text_of fault.LargeKeys = Some (codes "keys:0: TooLarge\n  at most 8388608 octets are allowed\n")
text_of (fault.Unread path kind) = Some (codes "error: the key file " ++ (string_bytes path
    ++ (codes " cannot be read: " ++ (cause_of kind ++ codes "\n"))))
text_of fault.Clock = Some (codes "error: the clock cannot be read\n")
text_of fault.Write = Some (codes "error: standard output cannot be written\n")
text_of fault.Input = Some (codes "error: standard input cannot be read as UTF-8 text\n")
text_of fault.Send = Some (codes "error: the packet cannot be sent to this port\n")
text_of (fault.Unbound endpoint) = Some (codes "error: " ++ (socket_text endpoint
    ++ codes " cannot be bound: give --from a port that no other program uses\n"))
text_of (fault.Silent why) = silence_text why
text_of (fault.NotDone why) = failure_text why
text_of (fault.Forged name) = Some (codes "error: the signature of the Data " ++ (uri_of name
    ++ codes " is wrong; --unverified prints the Data nevertheless\n"))
text_of (fault.NotSegment name why) = Some (codes "error: the Data " ++ (uri_of name
    ++ (codes " is no segment of the file: " ++ (segment_words why ++ codes "\n"))))
text_of (fault.Unanswered name) =
    Some (codes "error: no answer came in time for " ++ (uri_of name ++ codes "\n"))
text_of (fault.NotTaken name) = Some (codes "error: the repository does not take the Data "
    ++ (uri_of name ++ codes ": the rules may not allow it\n"))
text_of (fault.NoFile path kind) = Some (codes "error: the file " ++ (string_bytes path
    ++ (codes " cannot be read: " ++ (cause_of kind ++ codes "\n"))))
text_of (fault.NoCertificate path why) = Some (codes "error: the file " ++ (string_bytes path
    ++ (codes " has no key to show: " ++ (certificate_words why ++ codes "\n"))))
text_of (fault.LargeCertificate path) = Some (codes "error: the file " ++ (string_bytes path
    ++ codes " has no key to show: a certificate has at most 18000 octets\n"))
text_of fault.Shortened = Some (codes "error: the file became shorter while it was read\n")
text_of (fault.Unwritten path kind) = Some (codes "error: the file " ++ (string_bytes path
    ++ (codes " cannot be written: " ++ (cause_of kind ++ codes "\n"))))
