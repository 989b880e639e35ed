use Rattle.ndn_segments.proofs.Window.{window_held}
use Rattle.ndn_segments.proofs.law.only_a_window_is_held.Goals as goal

pub returns : goal.returns
returns c = window_held
