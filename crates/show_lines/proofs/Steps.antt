-- The steps of a run.
use Rattle.std.proofs.Common.{◌≡◌, ◌≢◌, inl, inr, ℕ, suc, ◌+◌, ◌<◌, Bool, true, ◌&&◌, List, [], ◌∷◌, ◌++◌, length, take, Option, refl, sym, ap, subst, ◌∙◌, arith, append_assoc, length-append, length-take}
use Rattle.std.specs.List.{flat_map}
use Rattle.std.specs.Io.KnownBytes.{Consumes, Keeps, IsAtEnd}
use Rattle.std.proofs.KnownBytes.{Appends-nil, Appends-trans, Appends-kept, Consumes-nil, Consumes-trans}
use Rattle.std.proofs.Math.Bool.{and_assoc}
use Rattle.std.proofs.lemmas.List.{append-nil, nil_from_length}
use Rattle.std.proofs.lemmas.Grind.{flat_map-append}
use Rattle.netlink_packet_route.specs.Report.{line}
use Rattle.link_show.proofs.Listing.{and_true, each_more}
use Rattle.link_show.specs.List.{EachShown}
use Rattle.show_lines.specs.Show.{Shower, numbered, ShowsAll, Ended, Open, IsUnbroken}
use Rattle.show_lines.specs.Progress.{Shown, Goes, held_of, most_held, WritesLine, WritesPiece, WritesRest}
use Rattle.show_lines.specs.Run.{Runs}
use Rattle.show_lines.proofs.Cuts.{all_append, take_twice}
use Rattle.show_lines.proofs.Kept.{DependsOnHeld}

-- the part of a piece that stands before the rest was shown
pub record Fed (shows : Shower) (before after : ℕ × List ℕ) (piece rest : List ℕ) (w v : Option (List ℕ)) (all : Bool) : Type 0 where
  pub done : List ℕ
  pub cut : piece ≡ done ++ rest
  pub wrote : WritesPiece shows before after done w v all

-- what was read, and `first` before it, was shown, but for what is held
pub record Went (shows : Shower) (first : List ℕ) (held : ℕ × List ℕ) (r s w v : Option (List ℕ)) (whole : Bool) : Type 0 where
  pub text : List ℕ
  pub read : Consumes r s text
  pub wrote : WritesPiece shows (1, []) held (first ++ text) w v whole

some_bytes : (text : List ℕ) → text ≢ [] → 0 < length text
some_bytes [] h = absurd (h refl)
some_bytes (b ∷ text) h = omega arith

-- a line more
numbered_more : (n : ℕ) (lines : List (List ℕ)) (text : List ℕ) → numbered n (lines ++ text ∷ []) ≡ numbered n lines ++ (n + length lines, text) ∷ []
numbered_more n [] text = ap (λ k. (k, text) ∷ []) (omega arith)
numbered_more n (l ∷ lines) text = ap (λ xs. (n, l) ∷ xs) (numbered_more (suc n) lines text ∙ ap (λ k. numbered (suc n) lines ++ (k, text) ∷ []) (omega arith))

module _ {shows : Shower} where
  -- the output for the next line
  line_more : (lines : List (List ℕ)) (out : List ℕ) (n : ℕ) (text written : List ℕ) (whole read : Bool) → n ≡ suc (length lines) → EachShown shows (numbered 1 lines) out whole → shows (n, text) written read
      → EachShown shows (numbered 1 (lines ++ text ∷ [])) (out ++ written) (whole && read)
  line_more lines out n text written whole read e s h =
      let number : 1 + length lines ≡ n = omega (arith, e) in
      let lines_are = numbered_more 1 lines text ∙ ap (λ k. numbered 1 lines ++ (k, text) ∷ []) number in
      subst (λ xs. EachShown shows xs (out ++ written) (whole && read)) (sym lines_are) (each_more shows (numbered 1 lines) out (n, text) written whole read s h)

  -- ---- a piece of a text

  -- bytes without LF
  goes_on : (before after : ℕ × List ℕ) (piece : List ℕ) → IsUnbroken piece → after ≡ (before.0, held_of (before.1 ++ piece)) → Goes shows before after piece [] true
  goes_on before after piece solid e text out whole s =
      record {
        lines = s.lines;
        current = s.current ++ piece;
        cut = ap (λ t. t ++ piece) s.cut ∙ append_assoc (flat_map line s.lines) s.current piece;
        unbroken = s.unbroken;
        open_end = all_append (λ b. b ≢ 10) s.current piece s.open_end solid;
        counted = ap (λ (h : ℕ × List ℕ). h.0) e ∙ s.counted;
        is_held = ap (λ (h : ℕ × List ℕ). h.1) e ∙ ap (λ t. held_of (t ++ piece)) s.is_held ∙ take_twice most_held s.current piece;
        shown = rw (append-nil out, and_true whole) s.shown;
      }

  -- bytes without LF, and then LF
  goes_over : DependsOnHeld shows → (before after : ℕ × List ℕ) (piece written : List ℕ) (read : Bool) → IsUnbroken piece → shows (before.0, held_of (before.1 ++ piece)) written read → after ≡ (suc before.0, []) → Goes shows before after (line piece) written read
  goes_over depends before after piece written read solid h next text out whole s =
      let full = s.current ++ piece in
      let joined : held_of (before.1 ++ piece) ≡ held_of full = ap (λ t. held_of (t ++ piece)) s.is_held ∙ take_twice most_held s.current piece in
      let lines_are = flat_map-append line s.lines (full ∷ []) ∙ ap (λ l. flat_map line s.lines ++ l) (append-nil (line full)) in
      record {
        lines = s.lines ++ full ∷ [];
        current = [];
        cut = ap (λ t. t ++ line piece) s.cut ∙ append_assoc (flat_map line s.lines) s.current (line piece) ∙ ap (λ t. flat_map line s.lines ++ t) (sym (append_assoc s.current piece (10 ∷ [])))
            ∙ sym (append-nil (flat_map line (s.lines ++ full ∷ [])) ∙ lines_are);
        unbroken = all_append IsUnbroken s.lines (full ∷ []) s.unbroken (all_append (λ b. b ≢ 10) s.current piece s.open_end solid, tt);
        open_end = tt;
        counted = omega (arith, ap (λ (h : ℕ × List ℕ). h.0) next, s.counted, length-append s.lines (full ∷ []));
        is_held = ap (λ (h : ℕ × List ℕ). h.1) next;
        shown = line_more s.lines out before.0 full written whole read s.counted s.shown (depends before.0 full written read (subst (λ t. shows (before.0, t) written read) joined h));
      }

  -- two pieces
  writes_both : (a b c : ℕ × List ℕ) (p q : List ℕ) (w v u : Option (List ℕ)) (x y : Bool) → WritesPiece shows a b p w v x → WritesPiece shows b c q v u y → WritesPiece shows a c (p ++ q) w u (x && y)
  writes_both a b c p q w v u x y g h = (
    g.0 ++ h.0,
    (λ text out whole s. rw (← append_assoc text p q, ← append_assoc out g.0 h.0, ← and_assoc whole x y) (h.1 (text ++ p) (out ++ g.0) (whole && x) (g.1 text out whole s))),
    Appends-trans w v u g.0 h.0 g.2 h.2,
  )

  -- ---- the end of a text

  -- nothing is held
  ends_here : (text out : List ℕ) (held : ℕ × List ℕ) (whole : Bool) → Shown shows text out held whole → held.1 ≡ [] → ShowsAll shows text out whole
  ends_here text out held whole s empty =
      let len : length s.current ≡ 0 = omega (arith, ap length empty, ap length s.is_held, length-take most_held s.current) in
      record {
        lines = s.lines;
        cut = Ended s.unbroken (s.cut ∙ ap (λ t. flat_map line s.lines ++ t) (nil_from_length s.current len) ∙ append-nil (flat_map line s.lines));
        shown = s.shown;
      }

  -- the last line lacks its LF
  ends_open : DependsOnHeld shows → (text out : List ℕ) (held : ℕ × List ℕ) (written : List ℕ) (whole read : Bool) → Shown shows text out held whole → held.1 ≢ [] → shows held written read → ShowsAll shows text (out ++ written) (whole && read)
  ends_open depends text out held written whole read s some h =
      let len : 0 < length s.current = omega (arith, some_bytes held.1 some, ap length s.is_held, length-take most_held s.current) in
      record {
        lines = s.lines ++ s.current ∷ [];
        cut = Open s.lines s.current s.unbroken s.open_end len refl s.cut;
        shown = line_more s.lines out held.0 s.current written whole read s.counted s.shown (depends held.0 s.current written read (subst (λ t. shows (held.0, t) written read) s.is_held h));
      }

  -- ---- the lines of a piece

  pub fed_none : (held : ℕ × List ℕ) (piece : List ℕ) (w : Option (List ℕ)) → Fed shows held held piece piece w w true
  fed_none held piece w = record { done = []; cut = refl; wrote = ([], λ text out whole s. rw (append-nil text, append-nil out, and_true whole) s, Appends-nil w) }

  -- one more line
  pub fed_line : DependsOnHeld shows → (before held after : ℕ × List ℕ) (piece rest front behind : List ℕ) (w v u : Option (List ℕ)) (all read : Bool) → Fed shows before held piece rest w v all → rest ≡ line front ++ behind → IsUnbroken front
      → WritesLine shows (held.0, held_of (held.1 ++ front)) v u read → after ≡ (suc held.0, []) → Fed shows before after piece behind w u (all && read)
  fed_line depends before held after piece rest front behind w v u all read s e solid h next = record {
    done = s.done ++ line front;
    cut = s.cut ∙ ap (λ t. s.done ++ t) e ∙ sym (append_assoc s.done (line front) behind);
    wrote = writes_both before held after s.done (line front) w v u all read s.wrote (h.0, goes_over depends held after front h.0 read solid h.1 next, h.2);
  }

  -- the rest has no LF
  pub fed_all : (before held after : ℕ × List ℕ) (piece rest : List ℕ) (w v u : Option (List ℕ)) (all : Bool) → Fed shows before held piece rest w v all → IsUnbroken rest → after ≡ (held.0, held_of (held.1 ++ rest)) → Keeps v u → WritesPiece shows before after piece w u all
  fed_all before held after piece rest w v u all s solid e keeps =
      let both = writes_both before held after s.done rest w v u all true s.wrote ([], goes_on held after rest solid e, Appends-kept v v u [] (Appends-nil v) keeps) in
      subst (λ p. WritesPiece shows before after p w u all) (sym s.cut) (subst (WritesPiece shows before after (s.done ++ rest) w u) (and_true all) both)

  -- ---- the pieces of a text

  -- nothing is read behind `first`
  pub went_none : (first : List ℕ) (held : ℕ × List ℕ) (r w v : Option (List ℕ)) (whole : Bool) → WritesPiece shows (1, []) held first w v whole → Went shows first held r r w v whole
  went_none first held r w v whole h = record { text = []; read = Consumes-nil r; wrote = subst (λ t. WritesPiece shows (1, []) held t w v whole) (sym (append-nil first)) h }

  -- one more piece
  pub went_on : (first : List ℕ) (held after : ℕ × List ℕ) (piece : List ℕ) (r s t w v u : Option (List ℕ)) (whole all : Bool) → Went shows first held r s w v whole → Consumes s t piece → WritesPiece shows held after piece v u all
      → Went shows first after r t w u (whole && all)
  went_on first held after piece r s t w v u whole all g c h = record {
    text = g.text ++ piece;
    read = Consumes-trans r s t g.text piece g.read c;
    wrote = subst (λ l. WritesPiece shows (1, []) after l w u (whole && all)) (append_assoc first g.text piece) (writes_both (1, []) held after (first ++ g.text) piece w v u whole all g.wrote h);
  }

  -- the end
  pub went_all : DependsOnHeld shows → (first : List ℕ) (held : ℕ × List ℕ) (r s t w v u : Option (List ℕ)) (whole all : Bool) → Went shows first held r s w v whole → Consumes s t [] → IsAtEnd t → WritesRest shows held whole v u all → Runs shows first r t w u all
  went_all depends first held r s t w v u whole all g c end h = ended h
    where
      out : List ℕ
      out = g.wrote.0

      read : Consumes r t g.text
      read = subst (Consumes r t) (append-nil g.text) (Consumes-trans r s t g.text [] g.read c)

      shown : Shown shows (first ++ g.text) out held whole
      shown = g.wrote.1 [] [] true (record { lines = []; current = []; cut = refl; unbroken = tt; open_end = tt; counted = refl; is_held = refl; shown = record { answers = []; each = tt; joined = refl; all = refl } })

      ended : WritesRest shows held whole v u all → Runs shows first r t w u all
      ended (inl (empty, keeps, same)) =
          record { text = g.text; out = out; read = read; end = end; shown = subst (ShowsAll shows (first ++ g.text) out) (sym same) (ends_here (first ++ g.text) out held whole shown empty); written = Appends-kept w v u out g.wrote.2 keeps }
      ended (inr (some, (well, last, same))) = record {
        text = g.text;
        out = out ++ last.0;
        read = read;
        end = end;
        shown = subst (ShowsAll shows (first ++ g.text) (out ++ last.0)) (sym same) (ends_open depends (first ++ g.text) out held last.0 whole well shown some last.1);
        written = Appends-trans w v u out last.0 g.wrote.2 last.2;
      }

-- a read of no bytes
pub read_end : (s t : Option (List ℕ)) (n : ℕ) (buf : List ℕ) → n ≡ 0 → Consumes s t (take n buf) × (n ≡ 0 → 0 < length buf → IsAtEnd t) → 0 < length buf → Consumes s t [] × IsAtEnd t
read_end s t n buf e h some = (subst (λ k. Consumes s t (take k buf)) e h.0, h.1 e some)
