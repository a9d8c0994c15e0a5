-- The message at the front of some bytes, and one message after others.
use Rattle.std.proofs.Common.{◌≡◌, ℕ, ◌+◌, ◌-◌, ◌<◌, ◌≤◌, ◌^◌, List, [], ◌∷◌, ◌++◌, length, take, drop, Some, Ok, refl, sym, subst, ap, ◌∙◌, arith, append_assoc}
use Rattle.std.proofs.lemmas.List.{append-nil, length-take, length-drop, take-append-drop, drop-drop}
use Rattle.netlink_packet_route.specs.Number.{bytes_of}
use Rattle.link_messages.specs.declared.buffer_parts.Message.{Message}
use Rattle.link_messages.specs.Message.{BeginsWithPacket, NextMessage, Stand}

-- the next n bytes
piece : (m n : ℕ) (s : List ℕ) → drop m s ≡ take n (drop m s) ++ drop (m + n) s
piece m n s = sym (take-append-drop n (drop m s)) ∙ ap (λ t. take n (drop m s) ++ t) (drop-drop n m s)

-- the fields of a header, a payload, and the rest
pieces : (s : List ℕ) (k : ℕ) → s ≡ take 4 s ++ (take 2 (drop 4 s) ++ (take 2 (drop 6 s) ++ (take 4 (drop 8 s) ++ (take 4 (drop 12 s) ++ (take k (drop 16 s) ++ drop (16 + k) s)))))
pieces s k =
    sym (take-append-drop 4 s) ∙ ap (λ t. take 4 s ++ t) (piece 4 2 s ∙ ap (λ t. take 2 (drop 4 s) ++ t) (piece 6 2 s ∙ ap (λ t. take 2 (drop 6 s) ++ t)
    (piece 8 4 s ∙ ap (λ t. take 4 (drop 8 s) ++ t) (piece 12 4 s ∙ ap (λ t. take 4 (drop 12 s) ++ t) (piece 16 k s)))))

same_pieces : (a b c d e p r f g h i j : List ℕ) → a ≡ f → b ≡ g → c ≡ h → d ≡ i → e ≡ j → f ++ (g ++ (h ++ (i ++ (j ++ (p ++ r))))) ≡ (a ++ (b ++ (c ++ (d ++ (e ++ (p ++ [])))))) ++ r
same_pieces a b c d e p r f g h i j ea eb ec ed ee =
    let group : a ++ (b ++ (c ++ (d ++ (e ++ (p ++ r))))) ≡ (a ++ (b ++ (c ++ (d ++ (e ++ (p ++ [])))))) ++ r = simp (append_assoc, append-nil) in
    let same : f ++ (g ++ (h ++ (i ++ (j ++ (p ++ r))))) ≡ a ++ (b ++ (c ++ (d ++ (e ++ (p ++ r))))) = cc in
    same ∙ group

-- bytes that state a length within them begin with the message of that length
pub begins_with_packet : (s : List ℕ) (n kind flags sequence port : ℕ) → n ≤ length s → 16 ≤ n → n < 2 ^ 32 → kind < 2 ^ 16 → flags < 2 ^ 16 → sequence < 2 ^ 32 → port < 2 ^ 32
    → bytes_of 4 n ≡ take 4 s → bytes_of 2 kind ≡ take 2 (drop 4 s) → bytes_of 2 flags ≡ take 2 (drop 6 s) → bytes_of 4 sequence ≡ take 4 (drop 8 s) → bytes_of 4 port ≡ take 4 (drop 12 s)
    → BeginsWithPacket s (record { kind = kind; flags = flags; sequence = sequence; port = port; payload = take (n - 16) (drop 16 s); padding = [] })
begins_with_packet s n kind flags sequence port high low fits hk hf hs hp el ek ef es ep =
    let p = take (n - 16) (drop 16 s) in
    let long : 16 + length p ≡ n = omega (arith, length-take (n - 16) (drop 16 s), length-drop 16 s) in
    record {
      rest = drop (16 + (n - 16)) s;
      is = record { kind = hk; flags = hf; sequence = hs; port = hp; payload = omega arith; padding = omega arith };
      string = pieces s (n - 16)
          ∙ same_pieces (bytes_of 4 (16 + length p)) (bytes_of 2 kind) (bytes_of 2 flags) (bytes_of 4 sequence) (bytes_of 4 port) p (drop (16 + (n - 16)) s) _ _ _ _ _ (ap (bytes_of 4) long ∙ el) ek ef es ep;
    }

pub length-payload : (s : List ℕ) (n : ℕ) → n ≤ length s → 16 ≤ n → 16 + length (take (n - 16) (drop 16 s)) ≡ n
length-payload s n high low = omega (arith, length-take (n - 16) (drop 16 s), length-drop 16 s)

-- one message more
pub stand_more : (s : List ℕ) (from at : ℕ) (ms : List Message) (m : Message) → Stand s from ms at → NextMessage at (drop at s) (Ok (Some m)) → Stand s from (ms ++ m ∷ []) m.next
stand_more s from at [] m h next = (subst (λ i. NextMessage i (drop i s) (Ok (Some m))) (sym h) next, refl)
stand_more s from at (n ∷ ms) m h next = (h.0, stand_more s n.next at ms m h.1 next)
