-- Linking and unlinking, over the places.
use Rattle.std.proofs.Common.{◌≡◌, ◌≢◌, ℕ, List, [], ◌∷◌, ◌++◌, Option, Some, None, refl, sym, ap, subst, ◌∙◌, Contains, filter}
use Rattle.slot_pool.specs.declared.handle.Handle.{Handle}
use Rattle.slot_pool.specs.declared.chain.Chain.{Chain}
use Rattle.slot_pool.specs.declared.chain.Link.{Link}
use Rattle.slot_pool.specs.declared.chain.Side.TheVariants as sides
use Rattle.slot_pool.specs.declared.place.Place.{Place}
use Rattle.slot_pool.specs.Links.{Links, link_of, members, first_or, last_or, Joins, IsChain, IsUnchained, KeepsOthers, is_other}
use Rattle.slot_pool.specs.Pool.{Lives}
use Rattle.slot_pool.specs.Place.{held_at, link_in, links_from, pool_of, IsSound, with_link, with_neighbour, link_changed, with_last, without_link, or_handle, end_without}
use Rattle.std.proofs.lemmas.List.Elements.{Contains-append_left, Contains-append_right}
use Rattle.slot_pool.proofs.Joined.{Contains-head, Contains-tail, Contains-split, Joins-split, Joins-linked, members-joined, IsChain-joined, KeepsOthers-from, filter-without, parts_are_apart, head_is_once}
use Rattle.slot_pool.proofs.Relinked.{Sets, SetsAt, Joins-linked_last, Joins-unlinked, last_is_member, first_is_member, first-with_last, last_or-push, first-without, last-without}
use Rattle.slot_pool.proofs.Neighbours.{link_of-links_from}
use Rattle.slot_pool.proofs.WithLink.{StillHolds, StillHolds-then, StillHolds-with_link, StillHolds-with_neighbour, Sets-with_link, SetsAt-with_neighbour, held_from_link, held_from_lives, held_at-with_neighbour_other}

-- where a change at an option's handle leaves others as they were
SetsAt-other : (at now : Handle → Option Link) (handle : Option Handle) (change : Option Link → Option Link) (q : Handle) → SetsAt at now handle change → (handle ≡ Some q → ⊥) → now q ≡ at q
SetsAt-other at now None change q sets differs = sets q
SetsAt-other at now (Some handle) change q sets differs = sets.others q (λ same. differs (ap Some (sym same)))

-- what a contract says of the chains after one of them has changed from one list to another by this handle
pub record Rechains (old new : Links) (before after : List Handle) (chain : Chain) (handle : Handle) : Type 0 where
  pub chain_is : IsChain new chain
  pub members_are : members new chain ≡ after
  pub others : KeepsOthers old new before
  pub unchained : (q : Handle) → q ≢ handle → IsUnchained old q → IsUnchained new q

module _ {T : Type 0} (ps : List (Place T)) (free : Option ℕ) (puts : ℕ) (sound : IsSound ps free puts) (chain : Chain) (handle : Handle) (is_chain : IsChain (links_from 0 ps) chain) where
  is_linked : (q : Handle) → Contains (members (links_from 0 ps) chain) q → (link : Link) × (link_of (links_from 0 ps) q ≡ Some link)
  is_linked q p = Joins-linked (link_of (links_from 0 ps)) None (members (links_from 0 ps) chain) None q is_chain.joined p

  abbrev pub after_link : List (Place T)
  after_link = with_link (with_neighbour ps chain.last sides.Next (Some handle)) handle (Some (record { previous = chain.last; next = None }))

  pub StillHolds-link : StillHolds ps after_link free puts
  StillHolds-link =
      let first = StillHolds-with_neighbour ps free puts chain.last sides.Next (Some handle) sound in
      StillHolds-then ps _ after_link free puts first (StillHolds-with_link _ free puts handle _ first.sound)

  pub Rechains-link : Lives (pool_of ps puts) handle → IsUnchained (links_from 0 ps) handle → Rechains (links_from 0 ps) (links_from 0 after_link) (members (links_from 0 ps) chain) (members (links_from 0 ps) chain ++ handle ∷ []) (with_last chain handle) handle
  Rechains-link lives unchained =
      let xs = members (links_from 0 ps) chain in
      let old = link_of (links_from 0 ps) in
      let qs = with_neighbour ps chain.last sides.Next (Some handle) in
      let middle = link_of (links_from 0 qs) in
      let new = link_of (links_from 0 after_link) in
      let off : (q : Handle) → chain.last ≡ Some q → q ≢ handle = λ q ends same.
      let link = is_linked q (last_is_member xs q (sym is_chain.last ∙ ends)) in
      let there : old handle ≡ Some link.0 = ap old (sym same) ∙ link.1 in
      cc in
      let first : SetsAt old middle chain.last (link_changed sides.Next (Some handle)) = SetsAt-with_neighbour ps chain.last sides.Next (Some handle) (λ q ends. is_linked q (last_is_member xs q (sym is_chain.last ∙ ends))) in
      let held = held_from_lives ps free puts handle sound lives in
      let kept : held_at qs handle ≡ Some held.0 = held_at-with_neighbour_other ps chain.last sides.Next (Some handle) handle (λ same. off handle same refl) ∙ held.1 in
      let second : Sets middle new handle (Some (record { previous = chain.last; next = None })) = Sets-with_link qs handle _ held.0 kept in
      let first_there : SetsAt old middle (last_or None xs) (link_changed sides.Next (Some handle)) = subst (λ (o : Option Handle). SetsAt old middle o (link_changed sides.Next (Some handle))) is_chain.last first in
      let second_there : Sets middle new handle (Some (record { previous = last_or None xs; next = None })) = subst (λ (o : Option Handle). Sets middle new handle (Some (record { previous = o; next = None }))) is_chain.last second in
      let joined = Joins-linked_last old middle new xs handle is_chain.joined unchained first_there second_there in
      let begins : (with_last chain handle).first ≡ first_or (xs ++ handle ∷ []) None = ap (λ (o : Option Handle). or_handle o handle) is_chain.first ∙ first-with_last xs handle in
      let ends : Some handle ≡ last_or None (xs ++ handle ∷ []) = sym (last_or-push None xs handle) in
      let elsewhere : (q : Handle) → q ≢ handle → (chain.last ≡ Some q → ⊥) → new q ≡ old q = λ q differs not_last. second.others q differs ∙ SetsAt-other old middle chain.last _ q first not_last in
      record {
        chain_is = IsChain-joined _ (with_last chain handle) (xs ++ handle ∷ []) begins ends joined;
        members_are = members-joined _ (with_last chain handle) (xs ++ handle ∷ []) begins joined;
        others = KeepsOthers-from _ _ xs (λ q link found absent. elsewhere q (λ same. let bad : old handle ≡ Some link = ap old (sym same) ∙ found in cc) (λ last. absent (last_is_member xs q (sym is_chain.last ∙ last))));
        unchained = λ q differs none. elsewhere q differs (λ last. let link = is_linked q (last_is_member xs q (sym is_chain.last ∙ last)) in let some = link.1 in cc) ∙ none;
      }

  abbrev pub after_unlink : Link → List (Place T)
  after_unlink link = with_link (with_neighbour (with_neighbour ps link.previous sides.Next link.next) link.next sides.Previous link.previous) handle None

  pub StillHolds-unlink : (link : Link) → StillHolds ps (after_unlink link) free puts
  StillHolds-unlink link =
      let first = StillHolds-with_neighbour ps free puts link.previous sides.Next link.next sound in
      let second = StillHolds-with_neighbour (with_neighbour ps link.previous sides.Next link.next) free puts link.next sides.Previous link.previous first.sound in
      let third = StillHolds-with_link (with_neighbour (with_neighbour ps link.previous sides.Next link.next) link.next sides.Previous link.previous) free puts handle None second.sound in
      StillHolds-then ps _ (after_unlink link) free puts first (StillHolds-then _ _ (after_unlink link) free puts second third)

  pub Rechains-unlink : (link : Link) → Contains (members (links_from 0 ps) chain) handle → link_in (held_at ps handle) ≡ Some link → Rechains (links_from 0 ps) (links_from 0 (after_unlink link)) (members (links_from 0 ps) chain) (filter (is_other handle) (members (links_from 0 ps) chain)) (without_link chain link) handle × IsUnchained (links_from 0 (after_unlink link)) handle
  Rechains-unlink link p has_link =
      let xs = members (links_from 0 ps) chain in
      let split = Contains-split handle xs p in
      let front = split.0 in
      let back = split.1 in
      let old = link_of (links_from 0 ps) in
      let ps1 = with_neighbour ps link.previous sides.Next link.next in
      let ps2 = with_neighbour ps1 link.next sides.Previous link.previous in
      let one = link_of (links_from 0 ps1) in
      let two = link_of (links_from 0 ps2) in
      let new = link_of (links_from 0 (after_unlink link)) in
      let joined : Joins old None (front ++ handle ∷ back) None = subst (λ (l : List Handle). Joins old None l None) split.2 is_chain.joined in
      let parts = Joins-split old None front (handle ∷ back) None joined in
      let found : old handle ≡ Some link = link_of-links_from ps handle ∙ has_link in
      let neighbours : Some link ≡ Some (record { previous = last_or None front; next = first_or back None }) = sym found ∙ parts.1.0 in
      let link_is : link ≡ record { previous = last_or None front; next = first_or back None } = cc in
      let previous_is : link.previous ≡ last_or None front = ap (λ (l : Link). l.previous) link_is in
      let next_is : link.next ≡ first_or back None = ap (λ (l : Link). l.next) link_is in
      let in_front : (q : Handle) → link.previous ≡ Some q → Contains front q = λ q e. last_is_member front q (sym previous_is ∙ e) in
      let behind : (q : Handle) → link.next ≡ Some q → Contains back q = λ q e. first_is_member back q (sym next_is ∙ e) in
      let apart : (q : Handle) → Contains front q → Contains (handle ∷ back) q → ⊥ = λ q a b. parts_are_apart old None front (handle ∷ back) q joined a b in
      let member_front : (q : Handle) → Contains front q → Contains xs q = λ q a. subst (λ (l : List Handle). Contains l q) (sym split.2) (Contains-append_left front (handle ∷ back) q a) in
      let member_back : (q : Handle) → Contains back q → Contains xs q = λ q a. subst (λ (l : List Handle). Contains l q) (sym split.2) (Contains-append_right front (handle ∷ back) q (Contains-tail handle q back a)) in
      let first : SetsAt old one link.previous (link_changed sides.Next link.next) = SetsAt-with_neighbour ps link.previous sides.Next link.next (λ q e. is_linked q (member_front q (in_front q e))) in
      let second : SetsAt one two link.next (link_changed sides.Previous link.previous) = SetsAt-with_neighbour ps1 link.next sides.Previous link.previous (λ q e.
      let was = is_linked q (member_back q (behind q e)) in
      (was.0, SetsAt-other old one link.previous _ q first (λ same. apart q (in_front q same) (Contains-tail handle q back (behind q e))) ∙ was.1)) in
      let not_previous : link.previous ≡ Some handle → ⊥ = λ same. apart handle (in_front handle same) (Contains-head handle back) in
      let not_next : link.next ≡ Some handle → ⊥ = λ same. head_is_once old _ handle back parts.1 (behind handle same) in
      let held = held_from_link ps handle link found in
      let kept : held_at ps2 handle ≡ Some held.0 = held_at-with_neighbour_other ps1 link.next sides.Previous link.previous handle not_next ∙ held_at-with_neighbour_other ps link.previous sides.Next link.next handle not_previous ∙ held.1 in
      let third : Sets two new handle None = Sets-with_link ps2 handle None held.0 kept in
      let first_there : SetsAt old one (last_or None front) (link_changed sides.Next (first_or back None)) = subst (λ (l : Link). SetsAt old one l.previous (link_changed sides.Next l.next)) link_is first in
      let second_there : SetsAt one two (first_or back None) (link_changed sides.Previous (last_or None front)) = subst (λ (l : Link). SetsAt one two l.next (link_changed sides.Previous l.previous)) link_is second in
      let now_joined = Joins-unlinked old one two new front handle back joined first_there second_there third in
      let begins : (without_link chain link).first ≡ first_or (front ++ back) None =
      ap (λ (l : Link). end_without l.previous l.next chain.first) link_is ∙ ap (end_without (last_or None front) (first_or back None)) (is_chain.first ∙ ap (λ (l : List Handle). first_or l None) split.2) ∙ first-without front handle back in
      let ends : (without_link chain link).last ≡ last_or None (front ++ back) =
      ap (λ (l : Link). end_without l.next l.previous chain.last) link_is ∙ ap (end_without (first_or back None) (last_or None front)) (is_chain.last ∙ ap (last_or None) split.2) ∙ last-without front handle back in
      let filtered : filter (is_other handle) xs ≡ front ++ back = ap (filter (is_other handle)) split.2 ∙ filter-without old front handle back joined in
      let elsewhere : (q : Handle) → q ≢ handle → (Contains xs q → ⊥) → new q ≡ old q = λ q differs absent.
      third.others q differs
      ∙ SetsAt-other one two link.next _ q second (λ e. absent (member_back q (behind q e)))
      ∙ SetsAt-other old one link.previous _ q first (λ e. absent (member_front q (in_front q e))) in (
        record {
          chain_is = IsChain-joined _ (without_link chain link) (front ++ back) begins ends now_joined;
          members_are = members-joined _ (without_link chain link) (front ++ back) begins now_joined ∙ sym filtered;
          others = KeepsOthers-from _ _ xs (λ q l there absent. elsewhere q (λ same. absent (subst (Contains xs) (sym same) p)) absent);
          unchained = λ q differs none. elsewhere q differs (λ a. let was = is_linked q a in let some = was.1 in cc) ∙ none;
        },
        third.here,
      )
