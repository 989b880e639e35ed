-- The messages for a fault in a key file, and the reasons why a file cannot be read.
use Rattle.std.specs.Prelude.{ℕ, zero, suc, List, ◌++◌, codes}
use Rattle.std.specs.Fmt.{decimal}
use Rattle.std.specs.declared.io.ErrorKind.{ErrorKind}
use Rattle.std.specs.declared.io.ErrorKind.TheVariants as kinds
use Rattle.key_files.specs.declared.fault.KeyFault.{KeyFault}
use Rattle.key_files.specs.declared.fault.KeyFault.TheVariants as keys

-- what is wrong in a key file, and how to correct it; `BadLine 0` means that the file is not UTF-8
unfoldable pub advice_on_keys : KeyFault → List ℕ
advice_on_keys (keys.BadLine zero) = codes "the file is not UTF-8 text: write it in UTF-8 or ASCII"
advice_on_keys (keys.BadLine (suc line)) =
    codes "a line is a name, one space, and 1 to 256 octets in hexadecimal: /ops/KEY/1 6b6579"
advice_on_keys (keys.BadKey line) = codes
    "ecdsa-p256 and a public key of P-256, 130 digits that begin with 04, go together on a line"
advice_on_keys (keys.TwiceNamed line) = codes "an earlier line has this name: give each name once"
advice_on_keys keys.TooMany =
    codes "at most 256 keys are allowed: leave out those that no rule asks for"
advice_on_keys keys.Memory = codes "out of memory"

-- The message for a fault in a key file. The first line of the message has the line number and the
-- kind of the fault. The line number is 0 for `TooMany` and for a file that is not UTF-8. The
-- second line of the message tells what is wrong and how to correct it. The message for `Memory` is
-- a single line without a number.
abbrev pub key_text : KeyFault → List ℕ
key_text (keys.BadLine line) = codes "keys:" ++ (decimal line ++ (codes ": BadLine\n  "
    ++ (advice_on_keys (keys.BadLine line) ++ codes "\n")))
key_text (keys.BadKey line) = codes "keys:" ++ (decimal line ++ (codes ": BadKey\n  "
    ++ (advice_on_keys (keys.BadKey line) ++ codes "\n")))
key_text (keys.TwiceNamed line) = codes "keys:" ++ (decimal line ++ (codes ": TwiceNamed\n  "
    ++ (advice_on_keys (keys.TwiceNamed line) ++ codes "\n")))
key_text keys.TooMany = codes "keys:0: TooMany\n  " ++ advice_on_keys keys.TooMany ++ codes "\n"
key_text keys.Memory = codes "error: out of memory\n"

-- why a file cannot be read
unfoldable pub cause_of : ErrorKind → List ℕ
cause_of kinds.NotFound = codes "there is no such file"
cause_of kinds.PermissionDenied = codes "permission denied"
cause_of kinds.IsADirectory = codes "it is a directory"
cause_of kinds.NotADirectory = codes "a part of its path is not a directory"
cause_of kinds.InvalidFilename = codes "its name is too long"
cause_of kinds.FilesystemLoop = codes "its path has too many symbolic links"
cause_of kind = codes "the system refused it"
