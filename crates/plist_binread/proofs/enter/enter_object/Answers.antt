use Rattle.std.proofs.Common.{◌≡◌, ◌-◌, ◌<◌, ◌≤◌, ℕ, true, ap, arith, length, get_or, List, Option, IfSome, refl, rules, subst, sym, ◌∙◌}
use Rattle.std.proofs.lemmas.List.{get_or_read}
use Rattle.std.proofs.lemmas.Option.{IfSome_then}
use Rattle.plist_base.specs.Faults.{ObjectReferenceTooLarge, RecursiveObject, fault_at}
use Rattle.plist_base.specs.Events.{EndCollection, ScalarEvent}
use Rattle.plist_decode.proofs.Decoding.{seen_decodes, seen_fits}
use Rattle.plist_binread.proofs.ObjectEvents.{borrowed_sets, fits_walk, long_sets}
use Rattle.plist_decode.proofs.FaultOffsets.{err_within, passed}
use Rattle.plist_binread.proofs.ObjectEntry.{IsDecodedAt, IsStoredAs, always_ok, known_cached, known_decoded, known_opens, known_refused, known_set, known_unpacked, long_opens, on_answer, placed, tagged}
use Rattle.plist_decode.proofs.UnknownBytes.{IfSome-all}
use Rattle.plist_binread.proofs.WalkInvariant.{known_full, unfound_beyond, unfound_open}
use Rattle.plist_binread.proofs.WalkSteps.{steps_positive}
use Rattle.plist_decode.specs.Decoded.{DecodesAt, DecodesSeen, FitsBefore}
use Rattle.plist_decode.specs.Reading.{IsFrontAt}
use Rattle.plist_decode.specs.declared.decoded.Content.{Content}
use Rattle.plist_decode.specs.declared.decoded.Decoded.{Decoded}
use Rattle.plist_decode.specs.declared.head.Bounds.{Bounds}
use Rattle.plist_decode.specs.declared.step_fault.FaultDetails.{FaultDetails}
use Rattle.plist_decode.specs.declared.decoded.Decoded.TheVariants as decoded
use Rattle.plist_base.specs.Packing.{unpacked}
use Rattle.plist_decode.specs.Packed.{is_marked, is_small_event, unmarked}
use Rattle.plist_decode.specs.StepFaults.{error_of, result_with}
use Rattle.plist_decode.specs.declared.step_fault.StepFault.TheVariants.{Memory, Recursion, Reference}
use Rattle.plist_binread.proofs.enter.enter_object.Goals as goal
use Rattle.plist_binread.proofs.enter.enter_object.Goals.{After-cache_or_open, After-index-content, In-Long, in-Some+in-Long+else-lies_in, in-Some+in_default, in-None+in_ok-decoded-in-None}

-- what the walk has stored about the object
stored : (g : _) (c : After-index-content g) → IsStoredAs c.args.walk.now c.args.reference.number
    c.index-tag.result.now c.index-content.result.now
stored g c =
    let below : c.args.reference.number < length c.args.walk.now.tags.items = omega arith in
    record {
      below = below;
      tag_is = get_or_read _ _ _ below c.index-tag.ensures 0;
      content_is = get_or_read c.args.walk.now.contents.items _ _ (rw c.args.walk.now.same below)
          c.index-content.ensures 0;
    }

-- ---- an object that isn't decoded

pub returns-then-reference-len-clause-handed : goal.returns-then-reference-len-clause-handed
returns-then-reference-len-clause-handed g c =
    let beyond : length c.args.walk.now.tags.items ≤ c.args.reference.number = omega arith in
    record {
      event = EndCollection;
      is = record {
        first = IfSome_then _ c.requires.known (λ bytes k. unfound_beyond k c.args.walk.now.path _ _
            (error_of Reference c.fail_at.new.self) beyond
            (ap (fault_at ObjectReferenceTooLarge) c.fail_at.ensures));
        cached = IfSome-all _ (λ _. tt);
      };
      taken = refl;
    }

pub returns-then-is_open-clause-handed : goal.returns-then-is_open-clause-handed
returns-then-is_open-clause-handed g c =
    let s = stored g (goal.at.returns-then-is_open-clause-handed g c).After-index-content in
    record {
      event = EndCollection;
      is = record {
        first = IfSome_then _ c.requires.known (λ bytes k. unfound_open k c.args.walk.now.path _ _
            (error_of Recursion c.fail_at-then-is_open.new.self) s.below
            (ap is_marked (sym s.tag_is) ∙ sym c.is_open.ensures ∙ c.if-is_open.true)
            (ap (fault_at RecursiveObject) (c.fail_at-then-is_open.ensures ∙ s.content_is)));
        cached = IfSome-all _ (λ _. tt);
      };
      taken = refl;
    }

pub from_parts-requires : goal.from_parts-requires
from_parts-requires g c =
    let s = stored g (goal.at.from_parts-requires g c).After-index-content in
    rw (s.tag_is, s.content_is) (c.args.walk.now.packed c.args.reference.number s.below
    (tagged s (omega arith) (sym c.is_open.ensures ∙ c.if-is_open.false)).1)

pub returns-then-tag-ne0-clause-falls : goal.returns-then-tag-ne0-clause-falls
returns-then-tag-ne0-clause-falls g c = omega (arith, steps_positive)

pub returns-then-tag-ne0-clause-handed : goal.returns-then-tag-ne0-clause-handed
returns-then-tag-ne0-clause-handed g c =
    let s = stored g (goal.at.returns-then-tag-ne0-clause-handed g c).After-index-content in
    let is = tagged s (omega arith) (sym c.is_open.ensures ∙ c.if-is_open.false) in
    let event = ScalarEvent (unpacked (get_or c.args.walk.now.tags.items c.args.reference.number 0)
    (get_or c.args.walk.now.contents.items c.args.reference.number 0)) in
    let caches : is_small_event event ≡ true
    → 0 < unmarked (get_or c.args.walk.now.tags.items c.args.reference.number 0) = λ _. is.1 in
    record {
      event = event;
      is = record {
        first = known_unpacked _ _ c.args.walk.now c.args.reference.number c.requires.known s.below
            c.args.reference.at is.0 is.1;
        cached = IfSome-all _ (λ _. caches);
      };
      taken = subst (λ scalar. g.V.EventVisitor.step c.args.visitor.now (ScalarEvent scalar)
          c.packed.result c.packed.new.self)
          (c.from_parts.ensures ∙ (λ i. unpacked (s.tag_is i) (s.content_is i))) c.packed.ensures;
    }

-- ---- an object that is decoded

pub returns-in_err-decoded-in-None-clause-handed : goal.returns-in_err-decoded-in-None-clause-handed
returns-in_err-decoded-in-None-clause-handed g c =
    let s = stored g (goal.at.returns-in_err-decoded-in-None-clause-handed g c).After-index-content in
    let p = placed s c.if-tag-ne0.false in
    rw (passed _ c.from_residual.ensures.1) (record {
      event = EndCollection;
      is = record {
        first = known_refused _ _ c.args.walk.now c.args.reference.number c.requires.known
            p.0 c.args.reference.at c.index-content.result.now _ p.1
            p.2 c.in_err-decoded-in-None.ensures.refused;
        cached = IfSome-all _ (λ _. tt);
      };
      taken = refl;
    })

-- an object was decoded, and ends before the trailer
record Fetched (known : Option (List ℕ)) (bounds : Bounds) (place : ℕ) (d : Decoded) : Type 0 where
  decodes : DecodesAt known bounds place d
  fits : FitsBefore bounds.trailer place d

-- an object was decoded from its first bytes
fetched_front : (known : Option (List ℕ)) (bounds : Bounds) (place : ℕ) (seen : List ℕ)
    (answer d : Decoded) → answer ≡ d → IsFrontAt known bounds place seen
    → DecodesSeen (bounds.trailer - place) bounds.reference_width seen answer
    → Fetched known bounds place d
fetched_front known bounds place seen answer d is front means =
    subst (Fetched known bounds place) is (record {
      decodes = seen_decodes known bounds place seen answer front means;
      fits = seen_fits bounds place seen answer front.front.within means;
    })

-- a long string or long data was decoded
long_fetched : (g : _) (c : In-Long g) → Fetched (g.S.Source.known c.args.source.now)
    c.args.decoder.now.bounds c.index-content.result.now
    (decoded.Long c.in-Long.kind c.in-Long.start c.in-Long.count)
long_fetched g c =
    fetched_front _ c.args.decoder.now.bounds c.index-content.result.now c.in-Some.seen.now
    c.decode_front-decoded.result _ c.in-Long.is c.in-Some.ensures
    c.decode_front-decoded.ensures.decoded

pub lies_in-requires : goal.lies_in-requires
lies_in-requires g c =
    let fits = (long_fetched g (goal.at.lies_in-requires g c).In-Long).fits in
    let small = c.args.decoder.now.bounds.small in
    omega (arith, fits, small)

pub returns-then-lies_in-clause-fault : goal.returns-then-lies_in-clause-fault
returns-then-lies_in-clause-fault g c =
    err_within _ c.index-content.result.now c.args.decoder.now.bounds.trailer 0 c.args.decoder.now.bounds.trailer
    (c.hand_bytes.ensures.is.fault _ _ c.args.decoder.now.bounds.trailer) (omega arith) (omega arith)

pub returns-then-lies_in-clause-falls : goal.returns-then-lies_in-clause-falls
returns-then-lies_in-clause-falls g c =
    always_ok _ c.hand_bytes.result (omega (arith, steps_positive))

pub returns-then-lies_in-clause-handed : goal.returns-then-lies_in-clause-handed
returns-then-lies_in-clause-handed g c =
    let s = stored g (goal.at.returns-then-lies_in-clause-handed g c).After-index-content in
    let p = placed s c.if-tag-ne0.false in
    let long_object = long_fetched g (goal.at.returns-then-lies_in-clause-handed g c).In-Long in
    let bounds = c.args.decoder.now.bounds in
    let content : Content
    = record { kind = c.in-Long.kind; start = c.in-Long.start; count = c.in-Long.count } in
    let long = decoded.Long c.in-Long.kind c.in-Long.start c.in-Long.count in
    let h = c.hand_bytes.ensures in
    let details : FaultDetails
    = record {
      place = c.index-content.result.now;
      marker = c.decode_front-decoded.new.decoder.details.marker;
      kept = c.decode_front-decoded.new.decoder.details.kept;
    } in
    let answer = result_with c.hand_bytes.result details in
    let there = known_decoded _ bounds c.args.walk.now c.args.reference.number c.requires.known
    p.0 c.index-content.result.now long p.2
    long_object.decodes in
    let sets = long_sets _ bounds c.index-content.result.now content answer h.event long_object.fits
    (borrowed_sets _ c.index-content.result.now content c.in-Some.seen.now answer h.event c.in-Some.ensures.lies
    (c.lies_in.ensures c.if-lies_in.true) (rw c.bytes_in-bytes.ensures at (h.is.sets details))) in
    record {
      event = h.event;
      is = record {
        first = known_set _ bounds c.args.walk.now c.args.reference.number c.requires.known
            p.0 c.args.reference.at c.index-content.result.now long c.args.walk.now _ answer
            h.event refl p.1 there
            (long_opens c.args.reference.number c.in-Long.start c.in-Long.count c.in-Long.kind
            c.args.walk.now p.0 (search rules)) sets (always_ok _ answer refl);
        cached = known_cached _ bounds c.args.walk.now c.args.reference.number c.requires.known
            p.0 c.index-content.result.now long _ answer h.event c.args.walk.now.tags.items
            refl there sets (λ no. absurd (cc));
      };
      taken = h.taken;
    }

pub cache_or_open-requires-clause-fits : goal.cache_or_open-requires-clause-fits
cache_or_open-requires-clause-fits g c =
    let known = g.S.Source.known c.args.source.now in
    let bounds = c.args.decoder.now.bounds in
    fits_walk bounds c.index-content.result.now _ (elim c.match-buffered_front.branch [
      | in-None+in_ok-decoded-in-None w ↦
          subst (FitsBefore bounds.trailer c.index-content.result.now) (sym w.decoded-is)
          w.in_ok-decoded-in-None.ensures.fits
      | in-Some+in-Long+else-lies_in w ↦ (fetched_front known bounds c.index-content.result.now w.in-Some.seen.now
          w.decode_front-decoded.result _ (w.in-Long.is ∙ sym w.decoded-is) w.in-Some.ensures
          w.decode_front-decoded.ensures.decoded).fits
      | in-Some+in_default w ↦ (fetched_front known bounds c.index-content.result.now w.in-Some.seen.now
          w.decode_front-decoded.result _ (sym w.decoded-is) w.in-Some.ensures
          w.decode_front-decoded.ensures.decoded).fits
    ])

-- the object was decoded, and the source and the bounds are unchanged
fetched : (g : _) (c : After-cache_or_open g) → Fetched (g.S.Source.known c.args.source.now)
    c.args.decoder.now.bounds c.index-content.result.now c.match-buffered_front.decoded
    × (g.S.Source.known c.match-buffered_front.source ≡ g.S.Source.known c.args.source.now)
    × (c.match-buffered_front.decoder.bounds ≡ c.args.decoder.now.bounds)
fetched g c =
    let known = g.S.Source.known c.args.source.now in
    let bounds = c.args.decoder.now.bounds in
    elim c.match-buffered_front.branch [
      | in-None+in_ok-decoded-in-None w ↦ (
        subst (Fetched known bounds c.index-content.result.now) (sym w.decoded-is) (record {
          decodes = w.in_ok-decoded-in-None.ensures.decoded;
          fits = w.in_ok-decoded-in-None.ensures.fits;
        }),
        rw w.source-is w.in_ok-decoded-in-None.ensures.unchanged,
        rw w.decoder-is w.in_ok-decoded-in-None.ensures.bounds,
      )
      | in-Some+in-Long+else-lies_in w ↦ (
        fetched_front known bounds c.index-content.result.now w.in-Some.seen.now w.decode_front-decoded.result _
            (w.in-Long.is ∙ sym w.decoded-is) w.in-Some.ensures w.decode_front-decoded.ensures.decoded,
        rw w.source-is refl,
        rw w.decoder-is w.decode_front-decoded.ensures.bounds,
      )
      | in-Some+in_default w ↦ (
        fetched_front known bounds c.index-content.result.now w.in-Some.seen.now w.decode_front-decoded.result _
            (sym w.decoded-is) w.in-Some.ensures w.decode_front-decoded.ensures.decoded,
        rw w.source-is refl,
        rw w.decoder-is w.decode_front-decoded.ensures.bounds,
      )
    ]

pub hand_decoded-requires : goal.hand_decoded-requires
hand_decoded-requires g c =
    let f = fetched g (goal.at.hand_decoded-requires g c).After-cache_or_open in rw f.2 f.0.fits

-- the object of the reference was decoded
there : (g : _) (c : After-cache_or_open g) → IsStoredAs c.args.walk.now c.args.reference.number
    c.index-tag.result.now c.index-content.result.now
    → IfSome (g.S.Source.known c.args.source.now) (λ bytes. IsDecodedAt bytes c.args.decoder.now.bounds
    c.args.reference.number c.index-content.result.now c.match-buffered_front.decoded)
there g c s =
    let p = placed s c.if-tag-ne0.false in
    known_decoded _ _ c.args.walk.now _ c.requires.known p.0 _ _ p.2 (fetched g c).0.decodes

pub returns-then-cache_or_open-clause-kept : goal.returns-then-cache_or_open-clause-kept
returns-then-cache_or_open-clause-kept g c =
    let s = stored g (goal.at.returns-then-cache_or_open-clause-kept g c).After-index-content in
    let p = placed s c.if-tag-ne0.false in
    record {
      size = search rules;
      known_walk = known_opens _ _ c.args.walk.now c.args.reference.number c.requires.known
          p.0 c.index-content.result.now _ c.cache_or_open.new.walk
          (there g (goal.at.returns-then-cache_or_open-clause-kept g c).After-cache_or_open s)
          (c.cache_or_open.ensures.yields c.if-cache_or_open.true);
      bounds = search rules;
      counted = search rules;
      unchanged = search rules;
    }

pub returns-clause-handed : goal.returns-clause-handed
returns-clause-handed g c =
    let s = stored g (goal.at.returns-clause-handed g c).After-index-content in
    let p = placed s c.if-tag-ne0.false in
    let f = fetched g (goal.at.returns-clause-handed g c).After-cache_or_open in
    record {
      event = EndCollection;
      is = record {
        first = known_refused _ _ c.args.walk.now c.args.reference.number c.requires.known
            p.0 c.args.reference.at c.index-content.result.now
            (error_of Memory c.match-buffered_front.decoder.details) p.1
            p.2
            (known_full _ c.args.decoder.now.bounds c.index-content.result.now c.match-buffered_front.decoded
            (error_of Memory c.match-buffered_front.decoder.details) refl
            (c.cache_or_open.ensures.wanted c.if-cache_or_open.false) f.0.decodes);
        cached = IfSome-all _ (λ _. tt);
      };
      taken = refl;
    }

pub returns-then-cache_or_open-clause-handed : goal.returns-then-cache_or_open-clause-handed
returns-then-cache_or_open-clause-handed g c =
    let s = stored g (goal.at.returns-then-cache_or_open-clause-handed g c).After-index-content in
    let p = placed s c.if-tag-ne0.false in
    let at = (goal.at.returns-then-cache_or_open-clause-handed g c).After-cache_or_open in
    let f = fetched g at in
    let h = c.hand_decoded.ensures.handed in
    record {
      event = h.event;
      is = record {
        first = known_set _ _ c.args.walk.now c.args.reference.number c.requires.known p.0
            c.args.reference.at c.index-content.result.now _ c.cache_or_open.new.walk _
            (result_with c.hand_decoded.result c.hand_decoded.new.decoder.details) h.event
            f.1 p.1 (there g at s)
            (c.cache_or_open.ensures.yields c.if-cache_or_open.true) (rw f.2 at h.is)
            (on_answer _ c.hand_decoded.result c.hand_decoded.new.decoder.details c.hand_decoded.ensures.found);
        cached = known_cached _ _ c.args.walk.now c.args.reference.number c.requires.known
            p.0 c.index-content.result.now _ _
            (result_with c.hand_decoded.result c.hand_decoded.new.decoder.details) h.event
            c.cache_or_open.new.walk.tags.items f.1 (there g at s) (rw f.2 at h.is)
            c.cache_or_open.ensures.cached;
      };
      taken = h.taken;
    }
