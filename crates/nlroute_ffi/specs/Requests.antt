-- The results of writing requests.
use Rattle.std.specs.Prelude.{◌≡◌, ℕ, ◌<◌, List, length, Result, Ok, Err}
use Rattle.netlink_packet_route.specs.Rewrite.{StandsInFront}
use Rattle.link_entries.specs.declared.entry.Entry.{Entry}
use Rattle.link_requests.specs.declared.head.Head.{Head}
use Rattle.link_requests.specs.declared.misfit.RequestError.{RequestError}
use Rattle.link_requests.specs.declared.misfit.RequestError.TheVariants as errors
use Rattle.link_requests.specs.Request.{request_of}
use Rattle.nlroute_ffi.specs.declared.refusal.Refusal.{Refusal}
use Rattle.nlroute_ffi.specs.declared.refusal.Refusal.TheVariants.{TooLong, NoRoom, BadType, NoIndex}
use Rattle.nlroute_ffi.specs.Writing.{refusal_for}

-- the error code for a request that cannot be written
abbrev pub refusal_of_request : RequestError → Refusal
refusal_of_request errors.BadType = BadType
refusal_of_request errors.NoIndex = NoIndex
refusal_of_request (errors.Value first) = refusal_for first.misfit
refusal_of_request errors.TooLarge = TooLong

-- the index of the value that cannot be written; of an error of the head or the whole, the number of values
abbrev pub index_of : ℕ → RequestError → ℕ
index_of count (errors.Value first) = first.index
index_of count error = count

-- the buffer starts with the request, whose length is n, and the rest is unchanged; or the buffer is too small, and the index
-- has become the length of the request; or the request cannot be written, and the index says of which value
abbrev pub Requested : Result (List ℕ) RequestError → ℕ → List ℕ → List ℕ → ℕ → ℕ → Result ℕ Refusal → Type 0
Requested (Ok s) count old new before after (Ok n) = StandsInFront old new s n × (after ≡ before)
Requested (Ok s) count old new before after (Err NoRoom) = (length old < length s) × (new ≡ old) × (after ≡ length s)
Requested (Err e) count old new before after (Err refusal) = (refusal ≡ refusal_of_request e) × (new ≡ old) × (after ≡ index_of count e)
Requested request count old new before after result = ⊥

-- of the request that this head and these entries encode to
abbrev pub RequestAnswers : Head → List Entry → List ℕ → List ℕ → List ℕ → ℕ → ℕ → Result ℕ Refusal → Type 0
RequestAnswers head es octets old new before after result = Requested (request_of head octets es) (length es) old new before after result
