use Rattle.std.proofs.Common.{codes}
use Rattle.node_config.proofs.FaceUris.{no_face_uri4, no_face_uri6, stripped}
use Rattle.node_config.proofs.words.face_uri_of.Goals as goal

pub returns-in-None : goal.returns-in-None
returns-in-None c =
    no_face_uri4 c.args.text.now c.in-Some.rest.now (stripped (codes "udp4://") c.args.text.now c.in-Some.rest.now c.in-Some.ensures.cases) c.in-None.ensures

pub returns-in-None-udp6_of : goal.returns-in-None-udp6_of
returns-in-None-udp6_of c =
    no_face_uri6 c.args.text.now c.in-Some-strip_prefix.rest.now (stripped (codes "udp6://") c.args.text.now c.in-Some-strip_prefix.rest.now c.in-Some-strip_prefix.ensures.cases)
    c.in-None-udp6_of.ensures
