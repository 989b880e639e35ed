-- The forms of a requirement on a name.

-- the name that a block states a requirement on: in a filter the name of the packet, in a key
-- locator the name of the key
pub data Tested : Type 0 where
  PacketName : Tested
  KeyName : Tested

-- the keys that state the requirement: `name` and `relation`, or `regex`, or `hyper-relation`
pub data Form : Type 0 where
  Related : Form
  Matching : Form
  Hyper : Form
