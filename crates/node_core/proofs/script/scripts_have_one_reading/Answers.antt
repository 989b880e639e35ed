use Rattle.node_core.proofs.OneReading.{whole_once, bad_once, never_both}
use Rattle.node_core.proofs.script.scripts_have_one_reading.Goals as goal

pub returns-clause-whole : goal.returns-clause-whole
returns-clause-whole c = whole_once

pub returns-clause-bad : goal.returns-clause-bad
returns-clause-bad c = bad_once

pub returns-clause-either : goal.returns-clause-either
returns-clause-either c = never_both
