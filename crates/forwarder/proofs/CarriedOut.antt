-- Allowed commands are carried out on the tables or by the repository, and the reserved memory is
-- enough for their replies.
use Rattle.std.proofs.Common.{◌≡◌, ℕ, ◌≤◌, ◌+◌, Bool, true, false, cond, List, [], ◌∷◌, length, arith, Option, None, Some, Result, Ok, refl, sym, ap, subst, ◌∙◌}
use Rattle.std.specs.Prelude.{IfSome, IsSome, SomeIff, nat_lt, unwrap_or, ◌==◌, ◌||◌, if◌then◌else◌}
use Rattle.std.proofs.lemmas.Bool.Decides.{nat_tests}
use Rattle.std.specs.Result.{result_ok}
use Rattle.ndn_tlv.specs.Element.{Field}
use Rattle.ndn_tlv.specs.declared.memory.Memory.{Memory}
use Rattle.ndn_names.specs.View.{components}
use Rattle.ndn_packets.specs.declared.fault.WriteFault.TheVariants.{BadName, TooLong}
use Rattle.ndn_packets.specs.declared.interest_writer.InterestWriter.{InterestWriter}
use Rattle.ndn_packets.specs.Packet.{PlainInterest}
use Rattle.ndn_packets.specs.Writing.{interest_name, interest_refusal, interest_text, is_bad_name}
use Rattle.pit_fib.specs.Fib.{Routes}
use Rattle.pit_fib.specs.StrategyTable.{Choices}
use Rattle.mgmt_core.specs.Commands.{row_of, text_of}
use Rattle.mgmt_core.specs.Room.{IsCallPrepared, IsPrepared}
use Rattle.mgmt_core.specs.declared.tables.Tables.{Tables}
use Rattle.mgmt_core.specs.Reading.{PlainCommand, command_at}
use Rattle.content_store.specs.Store.{StoreState}
use Rattle.mgmt_core.specs.declared.action.Action.{Action}
use Rattle.mgmt_core.specs.declared.action.Action.TheVariants.{AddNexthop, RemoveNexthop, Register, Unregister, SetStrategy, UnsetStrategy, EraseCache}
use Rattle.mgmt_core.specs.declared.types.TheConstants.{OK}
use Rattle.mgmt_core.specs.Tables.{CachedAfter, choices_after, first_status, if_done, refuses, routes_after, status_of}
use Rattle.mgmt_core.specs.Writing.{body_after, reply_limit, response}
use Rattle.mgmt_core.proofs.Bounds.{reply_is_bounded}
use Rattle.mgmt_core.proofs.Statuses.{first_has_text}
use Rattle.repo_core.specs.declared.reply.RepoReply.{RepoReply}
use Rattle.repo_core.specs.declared.reply.Want.{Want}
use Rattle.repo_core.specs.Commands.{repo_text_of}
use Rattle.repo_core.specs.Reading.{RepoCommand, repo_command_at}
use Rattle.repo_core.specs.Repo.{Held, IsCommandPrepared, RepoState, is_insert, reply_to}
use Rattle.repo_core.specs.Writing.{repo_response}
use Rattle.repo_core.proofs.Texts.{known_is_bounded, reply_has_text}
use Rattle.pit_fib.specs.declared.face_set.TheConstants.{MAX_FACES}
use Rattle.forwarder.specs.Event.{Token}
use Rattle.forwarder.specs.Policy.{Policy, with_next_version}
use Rattle.forwarder.specs.Request.{ForRepository, ForTables}
use Rattle.forwarder.specs.Deciding.{recorded_of}
use Rattle.forwarder.specs.Commands.{after_repository, after_tables, fetch_sends, replied, repository_content, repository_reply, tables_reply, tables_status, with_record}
use Rattle.pit_fib.specs.Records.{Pending}
use Rattle.forwarder.specs.Cache.{CacheAfter, Erases, Untouched, command_use}
use Rattle.forwarder.specs.Node.{NodeState}
use Rattle.forwarder.specs.CommandStep.{IsCommanded}

module _ (was new : NodeState) (face : ℕ) (token : Token) (status : ℕ) (i : PlainInterest) (content : List ℕ) where
  -- Let `read` be the result of reading the Interest's name: a command, or the status of a fault.
  -- If the status, the reply and the new node are those for `read`, then a command on the tables
  -- was carried out.
  pub tables_done : (read : Result PlainCommand ℕ) → command_at i.name ≡ read
      → status ≡ tables_status was.policy face read
      → content ≡ tables_reply was.policy face read
      → new.policy ≡ with_record (after_tables was.policy face read) (recorded_of i)
      → new.pending ≡ was.pending
      → CacheAfter was.policy.now was.pending (command_use read status) was.cache new.cache
      → IsCommanded was face token i ForTables status (replied face token i content ∷ []) new
  tables_done read is answered sent policy pending cache = record {
    answered = answered ∙ ap (λ (c : Result PlainCommand ℕ). tables_status was.policy face c) (sym is);
    sent = ap (λ (o : List ℕ). replied face token i o ∷ []) (sent ∙ ap (λ (c : Result PlainCommand ℕ). tables_reply was.policy face c) (sym is));
    policy = policy ∙ ap (λ (c : Result PlainCommand ℕ). with_record (after_tables was.policy face c) (recorded_of i)) (sym is);
    pending = pending;
    cache = subst (λ (c : Result PlainCommand ℕ). CacheAfter was.policy.now was.pending (command_use c status) was.cache new.cache) (sym is) cache;
  }

-- the Content of the reply to the command `c` on the tables has at most `reply_limit c` octets
pub response_fits : (c : PlainCommand) (face status : ℕ) (up : List ℕ) (routes : Routes) (choices : Choices)
    → status ≡ status_of c face up routes choices
    → length (response status (unwrap_or (text_of status) []) (body_after c face status)) ≤ reply_limit c
response_fits c face status up routes choices is =
    by_text (text_of status) refl (subst (λ (s : ℕ). IsSome (text_of s)) (sym is) (first_has_text (refuses c face up routes choices) (row_of c.action).refusals))
  where
    by_text : (o : Option (List ℕ)) → text_of status ≡ o → IsSome o → length (response status (unwrap_or o []) (body_after c face status)) ≤ reply_limit c
    by_text (Some text) e h = reply_is_bounded c face status text e
    by_text None e h = cc h

pub response_within : (c : PlainCommand) (face status : ℕ) (up : List ℕ) (routes : Routes) (choices : Choices) (body : List ℕ) (limit : ℕ)
    → status ≡ status_of c face up routes choices
    → body ≡ body_after c face status → limit ≡ reply_limit c
    → length (response status (unwrap_or (text_of status) []) body) ≤ limit
response_within c face status up routes choices body limit is same most =
    subst (λ (n : ℕ). length (response status (unwrap_or (text_of status) []) body) ≤ n) (sym most)
    (subst (λ (b : List ℕ). length (response status (unwrap_or (text_of status) []) b) ≤ reply_limit c) (sym same)
    (response_fits c face status up routes choices is))

-- if `n` is at most `limit`, then `n` octets fit into an empty buffer with a capacity of at least
-- `limit`
pub has_room : (len n limit cap : ℕ) → len ≡ 0 → n ≤ limit → limit ≤ cap → len + n ≤ cap
has_room len n limit cap none few most = omega arith

pub at_most : (n limit cap : ℕ) → n ≤ limit → limit ≤ cap → n ≤ cap
at_most n limit cap few most = omega arith

-- if only the FIB of the tables changes, and the field `prepared` of the FIB is unchanged, then a
-- command that was prepared is still prepared
pub still_ready : (old new : Tables) (c : PlainCommand) → new ≡ record old { fib = new.fib } → new.fib.prepared ≡ old.fib.prepared → IsPrepared old c → IsPrepared new c
still_ready old new c same prepared ready =
    subst (λ (t : Tables). IsPrepared t c) (sym same) (ready.0, by_action c.action ready.1)
  where
    by_action : (a : Action) → IsCallPrepared old (record c { action = a }) → IsCallPrepared (record old { fib = new.fib }) (record c { action = a })
    by_action AddNexthop h = prepared ∙ h
    by_action RemoveNexthop h = tt
    by_action Register h = prepared ∙ h
    by_action Unregister h = tt
    by_action SetStrategy h = h
    by_action UnsetStrategy h = tt
    by_action EraseCache h = tt

-- Let `routes` and `choices` be the routes and strategies after the command `c` with the status
-- `status`. Then the policy with `routes`, `choices` and the next version of the lists is the
-- policy that `after_tables` gives.
pub after_applied : (p : Policy) (c : PlainCommand) (face status : ℕ) (routes : Routes) (choices : Choices)
    → status ≡ tables_status p face (Ok c)
    → routes ≡ if_done status (routes_after c face p.now p.routes) p.routes
    → choices ≡ if_done status (choices_after c p.choices) p.choices
    → with_next_version (record p { routes = routes; choices = choices }) ≡ after_tables p face (Ok c)
after_applied p c face status routes choices is to_routes to_choices =
    let r = to_routes ∙ ap (λ (s : ℕ). if_done s (routes_after c face p.now p.routes) p.routes) is in
    let k = to_choices ∙ ap (λ (s : ℕ). if_done s (choices_after c p.choices) p.choices) is in
    λ j. with_next_version (record p { routes = r j; choices = k j })

same_store : (old new : StoreState) → new.cached ≡ old.cached → new.capacity ≡ old.capacity → new ≡ old
same_store old new cached capacity = λ j. record { cached = cached j; capacity = capacity j }

-- if the cached Data are those that a command leaves, and the capacity is unchanged, then
-- `CacheAfter` is true of the cache for the command and its status
pub cache_applied : (now : ℕ) (waiting : Pending) (c : PlainCommand) (face status : ℕ) (up : List ℕ) (routes : Routes) (choices : Choices) (old new : StoreState)
    → status ≡ status_of c face up routes choices
    → CachedAfter c old.cached new.cached → new.capacity ≡ old.capacity
    → CacheAfter now waiting (command_use (Ok c) status) old new
cache_applied now waiting c face status up routes choices old new is cached capacity = by_action c.action is cached
  where
    by_action : (a : Action) → status ≡ first_status (refuses c face up routes choices) (row_of a).refusals
        → CachedAfter (record c { action = a }) old.cached new.cached → CacheAfter now waiting (command_use (Ok (record c { action = a })) status) old new
    by_action AddNexthop s h = same_store old new h capacity
    by_action RemoveNexthop s h = same_store old new h capacity
    by_action Register s h = same_store old new h capacity
    by_action Unregister s h = same_store old new h capacity
    by_action SetStrategy s h = same_store old new h capacity
    by_action UnsetStrategy s h = same_store old new h capacity
    by_action EraseCache s h =
        subst (λ (b : Bool). CacheAfter now waiting (cond b (Erases c.name c.count) Untouched) old new) (sym (ap (λ (n : ℕ). n == OK) s)) (h, capacity)

-- replacing the routes, strategies and cache of a node by equal ones gives the same node
pub with_tables : (n : NodeState) (routes : Routes) (choices : Choices) (cache : StoreState)
    → routes ≡ n.policy.routes → choices ≡ n.policy.choices → cache ≡ n.cache
    → record n { policy = record n.policy { routes = routes; choices = choices }; cache = cache } ≡ n
with_tables n routes choices cache r k s =
    λ j. record n { policy = record n.policy { routes = r j; choices = k j }; cache = s j }

-- ---- commands to the repository

-- if the repository's prefix and prepared want are unchanged, a command to the repository that was
-- prepared is still prepared
pub still_prepared : (old new : RepoState) (name : List Field) → new.start ≡ old.start → new.prepared_want ≡ old.prepared_want
    → IsCommandPrepared old name → IsCommandPrepared new name
still_prepared old new name start want ready =
    subst (λ (w : Option (List Field)). IfSome (repo_command_at new.start name) (λ c. is_insert c.verb ≡ true → w ≡ Some c.name)) (sym want)
    (subst (λ (s : List Field). IfSome (repo_command_at s name) (λ c. is_insert c.verb ≡ true → old.prepared_want ≡ Some c.name)) (sym start) ready)

-- the Content of a reply of the repository has at most 55 octets
pub content_fits : (s : Held) (c : Option RepoCommand) (reply : RepoReply) → reply ≡ reply_to s c → length (repository_content reply) ≤ 55
content_fits s c reply is =
    by_text (repo_text_of reply.status) refl (subst (λ (r : RepoReply). IsSome (repo_text_of r.status)) (sym is) (reply_has_text s c))
  where
    by_text : (o : Option (List ℕ)) → repo_text_of reply.status ≡ o → IsSome o → length (repo_response reply.status (unwrap_or o []) reply.count) ≤ 55
    by_text (Some text) e h = known_is_bounded reply.status reply.count text e
    by_text None e h = cc h

-- for the same want, the sends by which the node fetches a Data do not depend on the prefix or the
-- state of the repository
pub same_fetches : (p : Policy) (start : List Field) (held : Held) (nonce : List ℕ) (want : Option Want)
    → fetch_sends (record p { repo = start; held = held }) nonce want ≡ fetch_sends p nonce want
same_fetches p start held nonce None = refl
same_fetches p start held nonce (Some want) = refl

-- replacing the repository of a node by an equal one gives the same node
pub with_repository : (n : NodeState) (start : List Field) (held : Held) → start ≡ n.policy.repo → held ≡ n.policy.held
    → record n { policy = record n.policy { repo = start; held = held } } ≡ n
with_repository n start held s h = λ j. record n { policy = record n.policy { repo = s j; held = h j } }

-- if a checked addition succeeds, its result is the exact sum
pub sum_is : (o : Option ℕ) (r : Result ℕ Memory) (n sum : ℕ) (P : Type 0) → SomeIff o P sum → o ≡ result_ok r → r ≡ Ok n → n ≡ sum
sum_is o r n sum P fits same given =
    (subst (λ (o : Option ℕ). SomeIff o P sum) (same ∙ ap (λ (r : Result ℕ Memory). result_ok r) given) fits).1

-- `has_reply_room` and `has_packet_room`: let at least `room + 8800` octets of space be reserved,
-- and let a reply have at most `room` octets. Then the space is enough for the reply. After the
-- reply is written, the remaining space is enough for a packet of 8,800 octets.
pub has_reply_room : (total room len space : ℕ) → total ≡ room + 8800 → len ≤ room → total ≤ space → len ≤ space
has_reply_room total room len space is few most = omega arith

pub has_packet_room : (total room len space left : ℕ) → total ≡ room + 8800 → len ≤ room → total ≤ space → space ≤ left + len → 8800 ≤ left
has_packet_room total room len space left is few most rest = omega arith

pub has_places : (places left : ℕ) → 1 + MAX_FACES ≤ places → places ≤ left + 1 → MAX_FACES ≤ left
has_places places left most rest = omega arith

-- an Interest that its writer does not refuse has at most 8,800 octets, so it fits in any space
-- of at least 8,800 octets
pub written_fits : (w : InterestWriter) (space : ℕ) → interest_refusal w ≡ None → 8800 ≤ space → length (interest_text w) ≤ space
written_fits w space none most = by (is_bad_name (components w.name)) (nat_lt 64 (length (interest_name w))) (nat_lt 8800 (length (interest_text w))) refl none
  where
    by : (bad many long : Bool) → nat_lt 8800 (length (interest_text w)) ≡ long
        → (if bad then Some BadName else (if many || long then Some TooLong else None)) ≡ None → length (interest_text w) ≤ space
    by true many long is none = absurd cc
    by false true long is none = absurd cc
    by false false true is none = absurd cc
    by false false false is none = grind (arith, nat_tests, is, most)

-- Let `reply` be the repository's reply to a command. Let the new policy be the old policy after
-- the command took effect and was recorded, and let the pending Interests and the cache be
-- unchanged. Then the command was carried out.
pub repository_done : (was new : NodeState) (face : ℕ) (token : Token) (i : PlainInterest) (reply : RepoReply) → reply ≡ repository_reply was.policy i
    → new.policy ≡ with_record (after_repository was.policy i) (recorded_of i) → new.pending ≡ was.pending → new.cache ≡ was.cache
    → IsCommanded was face token i ForRepository reply.status (replied face token i (repository_content reply) ∷ fetch_sends was.policy i.nonce reply.fetch) new
repository_done was new face token i reply is policy pending cache = record {
  answered = ap (λ (r : RepoReply). r.status) is;
  sent = ap (λ (r : RepoReply). replied face token i (repository_content r) ∷ fetch_sends was.policy i.nonce r.fetch) is;
  policy = policy;
  pending = pending;
  cache = cache;
}
