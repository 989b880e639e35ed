-- What the program must do for a job.
use Rattle.std.specs.Prelude.{◌≡◌, ℕ, List, [], Option, None, Some, Bool, true, false, is_none, unwrap_or, if◌then◌else◌, Vec}
use Rattle.std.specs.Option.{option_map}
use Rattle.std.specs.Global.{Vec as Octets}
use Rattle.key_files.specs.KeyFile.{NamedKey}
use Rattle.ndn_explain.specs.Input.{IsExplainedInput}
use Rattle.ndn_requests.specs.declared.exchange.View.{View}
use Rattle.ndn_requests.specs.declared.exchange.View.TheVariants.{Hexadecimal, Lines as AsLines}
use Rattle.ndn_requests.specs.declared.exchange.Exchange.{Exchange}
use Rattle.ndn_requests.specs.declared.fault.Silence.{Silence}
use Rattle.ndn_requests.specs.declared.fault.Failure.TheVariants as failure
use Rattle.ndn_requests.specs.Exchange.{silence_in}
use Rattle.ndn_jobs.specs.declared.job.Job.{Job}
use Rattle.ndn_jobs.specs.declared.job.Job.TheVariants as job
use Rattle.ndn_jobs.specs.declared.job.Ports.{Ports}
use Rattle.ndn_jobs.specs.declared.job.SendJob.{SendJob}
use Rattle.ndn_jobs.specs.declared.job.ExplainJob.{ExplainJob}
use Rattle.ndn_jobs.specs.declared.fault.ToolFault.{ToolFault}
use Rattle.ndn_jobs.specs.declared.fault.ToolFault.TheVariants as tool
use Rattle.ndn_client.specs.declared.fault.Fault.{Fault}
use Rattle.ndn_client.specs.declared.fault.Fault.TheVariants as fault
use Rattle.ndn_client.specs.declared.plan.TheConstants.{ANSWER_MILLISECONDS}
use Rattle.ndn_client.specs.declared.plan.InputForm.{InputForm}
use Rattle.ndn_client.specs.declared.plan.InputForm.TheVariants.{Nothing, Packet, Lines}
use Rattle.ndn_client.specs.declared.plan.Plan.{Plan}
use Rattle.ndn_client.specs.declared.plan.Plan.TheVariants as plan
use Rattle.ndn_jobs.specs.Value.{AreOctets, IsRefused}
use Rattle.ndn_client.specs.Input.{without_lf}
use Rattle.ndn_client.specs.Answer.{IsAnswer, IsRefusal, IsCommandPacket, IsInterestPacket, keys_given}

-- ---- parts of a job

abbrev pub input_form : Job → InputForm
input_form (job.Explain asked) = if is_none asked.packet then Lines else Nothing
input_form (job.Send asked) = if is_none asked.packet then Packet else Nothing
input_form asked = Nothing

-- the destination and the source port of the job's packet; neither if the job sends no packet
abbrev pub ports_of : Job → Ports
ports_of (job.Command asked) = asked.stamp.ports
ports_of (job.Ask asked) = asked.ports
ports_of (job.Send asked) = record { to = Some asked.to; from = asked.from }
ports_of asked = record { to = None; from = None }

abbrev pub view_of : Job → View
view_of (job.Ask asked) = asked.view
view_of (job.Send asked) = Hexadecimal
view_of asked = AsLines

-- how long to wait for an answer, in milliseconds: the timeout if it is given, otherwise the
-- lifetime of the Interest if it is given, otherwise 4,000
abbrev pub wait_for : Option ℕ → Option ℕ → ℕ
wait_for timeout lifetime = unwrap_or timeout (unwrap_or lifetime ANSWER_MILLISECONDS)

-- how long to wait for an answer to the job's packet, in milliseconds
abbrev pub wait_of : Job → ℕ
wait_of (job.Command asked) = wait_for asked.stamp.timeout None
wait_of (job.Ask asked) = wait_for asked.timeout asked.interest.lifetime
wait_of (job.Send asked) = wait_for asked.timeout None
wait_of asked = wait_for None None

-- whether a Data with a wrong signature is printed
abbrev pub unverified_of : Job → Bool
unverified_of (job.Ask asked) = asked.unverified
unverified_of asked = false

-- ---- what is printed

abbrev pub IsExplained : Bool → ExplainJob → List NamedKey → List ℕ → List ℕ → Type 0
IsExplained true asked book input text = IsExplainedInput (keys_given asked book) input text
IsExplained false asked book input text = IsAnswer (job.Explain asked) book text

-- the text that is printed: if the job explains standard input, the explanation of the lines in
-- `input`, and otherwise the answer to the job
abbrev pub IsPrinted : Job → List NamedKey → List ℕ → List ℕ → Type 0
IsPrinted (job.Explain asked) book input text =
    IsExplained (is_none asked.packet) asked book input text
IsPrinted asked book input text = IsAnswer asked book text

-- ---- what is sent

-- the octets of the packet that is given; if no packet is given, the octets that standard input
-- spells in hexadecimal; an LF at the end of standard input is ignored
abbrev pub IsSentBy : {Z : Type 0} → Option (List ℕ) → List ℕ → Vec ℕ Z → Type 0
IsSentBy (Some octets) input packet = packet.items ≡ octets
IsSentBy None input packet = AreOctets (without_lf input) packet

abbrev pub IsSent : {Z : Type 0} → SendJob → List ℕ → Vec ℕ Z → Type 0
IsSent asked input packet = IsSentBy (option_map (λ p. p.items) asked.packet) input packet

abbrev pub IsRequest : {Z : Type 0} → Job → List NamedKey → List ℕ → Vec ℕ Z → Type 0
IsRequest (job.Command asked) book input packet = IsCommandPacket asked book packet.items
IsRequest (job.Ask asked) book input packet = IsInterestPacket asked.interest book packet.items
IsRequest (job.Send asked) book input packet = IsSent asked input packet
IsRequest asked book input packet = packet.items ≡ []

-- ---- plans

-- The job `asked` sends a packet, and `x` is the exchange of this job.
pub record IsExchange (asked : Job) (book : List NamedKey) (input : List ℕ) (x : Exchange) : Type 0
  where
    pub request : IsRequest asked book input x.request
    pub to : (ports_of asked).to ≡ Some x.to
    pub from : (ports_of asked).from ≡ x.from
    pub view : x.view ≡ view_of asked
    pub wait : x.wait ≡ wait_of asked
    pub unverified : x.unverified ≡ unverified_of asked
    pub contents : x.contents.items ≡ []

abbrev pub IsPlan : Job → List NamedKey → List ℕ → Plan → Type 0
IsPlan asked book input (plan.Print text) =
    ((ports_of asked).to ≡ None) × IsPrinted asked book input text.items
IsPlan asked book input (plan.Exchange x) = IsExchange asked book input x

-- ---- errors: each error except Memory has a cause

abbrev pub IsNotSentBy : Option (List ℕ) → List ℕ → ToolFault → Type 0
IsNotSentBy (Some octets) input why = why ≡ tool.Memory
IsNotSentBy None input why =
    IsRefused (λ (octets : Octets ℕ). AreOctets (without_lf input) octets) why

abbrev pub IsNotSent : SendJob → List ℕ → ToolFault → Type 0
IsNotSent asked input why = IsNotSentBy (option_map (λ p. p.items) asked.packet) input why

abbrev pub IsNoPlan : Job → List NamedKey → List ℕ → ToolFault → Type 0
IsNoPlan (job.Send asked) book input why = IsNotSent asked input why
IsNoPlan asked book input why = IsRefusal asked book why

-- ---- requests without an answer

abbrev pub silent_fault : View → Silence → Fault
silent_fault Hexadecimal why = fault.Silent why
silent_fault view why = fault.NotDone (failure.Silent why)

abbrev pub fault_of_silence : Exchange → Bool → Fault
fault_of_silence x is_closed = silent_fault x.view (silence_in x is_closed)
