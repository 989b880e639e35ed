-- If the packet of a job cannot be written, the returned fault satisfies the definition of a
-- refusal for the job (`IsInterestRefusal`, `IsDataRefusal` or `IsCommandRefusal`).
use Rattle.std.proofs.Common.{List, refl, inl, inr}
use Rattle.key_files.specs.KeyFile.{NamedKey}
use Rattle.ndn_packets.specs.declared.fault.WriteFault.{WriteFault}
use Rattle.ndn_packets.specs.declared.fault.WriteFault.TheVariants.{BadName, TooLong, Memory}
use Rattle.ndn_packets.specs.declared.interest_writer.InterestWriter.{InterestWriter}
use Rattle.ndn_packets.specs.declared.data_writer.DataWriter.{DataWriter}
use Rattle.ndn_packets.specs.Writing.{interest_refusal, data_refusal}
use Rattle.ndn_jobs.specs.declared.job.InterestJob.{InterestJob}
use Rattle.ndn_jobs.specs.declared.job.DataJob.{DataJob}
use Rattle.ndn_jobs.specs.declared.job.CommandJob.{CommandJob}
use Rattle.ndn_requests.specs.Parameters.{IsNameRefusal}
use Rattle.ndn_requests.proofs.Refusals.{IsToldBy, bad_name, too_long}
use Rattle.ndn_jobs.specs.Fault.{fault_of_write}
use Rattle.ndn_client.specs.Answer.{AsksInterest, AsksData, AsksCommand, IsInterestRefusal, IsDataRefusal, IsCommandRefusal}

pub interest_refused : (job : InterestJob) (book : List NamedKey) (w : InterestWriter) (why : WriteFault)
    → AsksInterest job book w → IsToldBy (interest_refusal w) why → IsInterestRefusal job book (fault_of_write why)
interest_refused job book w BadName asks h = (w, asks, bad_name (interest_refusal w) h)
interest_refused job book w TooLong asks h = (w, asks, too_long (interest_refusal w) h)
interest_refused job book w Memory asks h = tt

pub data_refused : (job : DataJob) (book : List NamedKey) (w : DataWriter) (why : WriteFault)
    → AsksData job book w → IsToldBy (data_refusal w) why → IsDataRefusal job book (fault_of_write why)
data_refused job book w BadName asks h = (w, asks, bad_name (data_refusal w) h)
data_refused job book w TooLong asks h = (w, asks, too_long (data_refusal w) h)
data_refused job book w Memory asks h = tt

pub command_refused : (job : CommandJob) (book : List NamedKey) (w : InterestWriter) (why : WriteFault)
    → AsksCommand job book w → IsToldBy (interest_refusal w) why → IsCommandRefusal job book (fault_of_write why)
command_refused job book w BadName asks h = inr (w, asks, bad_name (interest_refusal w) h)
command_refused job book w TooLong asks h = inr (w, asks, too_long (interest_refusal w) h)
command_refused job book w Memory asks h = tt

pub name_refused : (job : CommandJob) (book : List NamedKey) (why : WriteFault) → IsNameRefusal job.name why → IsCommandRefusal job book (fault_of_write why)
name_refused job book BadName h = absurd h
name_refused job book TooLong h = inl (refl, h)
name_refused job book Memory h = tt
