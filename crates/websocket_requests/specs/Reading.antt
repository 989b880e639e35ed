-- Reading a head, line by line.
use Rattle.std.specs.Prelude.{ℕ, zero, suc, List, [], ◌∷◌, length, Bool, true, false, not, nat_lt, None, Some, Result, Ok, Err, if◌then◌else◌}
use Rattle.websocket_requests.specs.declared.fault.RequestFault.{RequestFault}
use Rattle.websocket_requests.specs.declared.fault.RequestFault.TheVariants.{BadLine, NoOrigin, OctetsAfter, OtherOrigin, TooLong, TwoOrigins}
use Rattle.websocket_requests.specs.declared.request.Progress.{Progress}
use Rattle.websocket_requests.specs.declared.request.Progress.TheVariants.{Allowed, Begun}
use Rattle.websocket_requests.specs.declared.request.TheConstants.{MAX_HEAD}
use Rattle.websocket_requests.specs.Field.{is_listed, is_named, is_origin_field, value_of}
use Rattle.websocket_requests.specs.Line.{Cut, line_of}

abbrev pub Read : Type 0
Read = Result Progress RequestFault

-- at the empty line that ends a head, with the octets after it
abbrev pub at_end : Bool → List ℕ → Read
at_end has_origin [] = if has_origin then Ok Allowed else Err NoOrigin
at_end has_origin (octet ∷ octets) = Err OctetsAfter

-- whether the head has an Origin after this field line, if it had one or not before
unfoldable pub after_field : List (List ℕ) → Bool → List ℕ → Result Bool RequestFault
after_field listed has_origin line =
    if not (is_named line) then Err BadLine else (
    if not (is_origin_field line) then Ok has_origin else (
    if has_origin then Err TwoOrigins else (
    if is_listed listed (value_of line) then Ok true else Err OtherOrigin)))

abbrev pub go_on : (Bool → Read) → Result Bool RequestFault → Read
go_on more (Err fault) = Err fault
go_on more (Ok has_origin) = more has_origin

abbrev pub read_line : (Bool → List ℕ → Read) → List (List ℕ) → Bool → Cut → Read
read_line more listed has_origin (Err fault) = Err fault
read_line more listed has_origin (Ok None) = Ok Begun
read_line more listed has_origin (Ok (Some ([], after))) = at_end has_origin after
read_line more listed has_origin (Ok (Some ((octet ∷ octets), after))) =
    go_on (λ has. more has after) (after_field listed has_origin (octet ∷ octets))

-- at most `n` field lines and the empty line after them
unfoldable pub read_fields : List (List ℕ) → ℕ → Bool → List ℕ → Read
read_fields listed zero has_origin octets = Ok Begun
read_fields listed (suc n) has_origin octets =
    read_line (read_fields listed n) listed has_origin (line_of octets)

abbrev pub read_request : List (List ℕ) → Cut → Read
read_request listed (Err fault) = Err fault
read_request listed (Ok None) = Ok Begun
read_request listed (Ok (Some ([], after))) = Err BadLine
read_request listed (Ok (Some ((octet ∷ octets), after))) =
    read_fields listed (length after) false after

unfoldable pub read_head : List (List ℕ) → List ℕ → Read
read_head listed octets = read_request listed (line_of octets)

abbrev pub limited : ℕ → Read → Read
limited size (Err fault) = Err fault
limited size (Ok Allowed) = if nat_lt MAX_HEAD size then Err TooLong else Ok Allowed
limited size (Ok Begun) = if nat_lt size MAX_HEAD then Ok Begun else Err TooLong

-- what is decided on the octets that have come
unfoldable pub checked : List (List ℕ) → List ℕ → Read
checked listed octets = limited (length octets) (read_head listed octets)
