-- No claim holds of a wrong library. Assumes nothing.
use Rattle.claims.specs.Wrong.{WrongAreShutOut}
use Rattle.claims.proofs.WrongReaders.{refuses_all_lem, repeats_first_lem, invents_blocks_lem, invents_blocks_before_faults_lem, hands_out_no_links_lem}
use Rattle.claims.proofs.WrongWriters.{stores_nothing_lem, always_due_lem}
use Rattle.claims.proofs.WrongTimes.{refuses_same_time_lem, accepts_lower_time_lem}
use Rattle.claims.proofs.WrongNumbers.{numbers_from_one_lem, counts_no_table_lem, counts_no_append_lem}
use Rattle.claims.proofs.WrongTexts.{start_in_block, last_text_told, text_told_beside_any_number, second_part_told}
use Rattle.claims.proofs.WrongListing.{invents_listed_blocks_lem}
use Rattle.claims.proofs.WrongLookups.{holes_only_lem, one_place_only_lem, holes_where_refused_lem}
use Rattle.claims.proofs.WrongDigests.{feeds_nothing_lem}
use Rattle.claims.proofs.WrongPairs.{any_id_follows, any_hash_follows, no_volume_follows}
use Rattle.claims.proofs.WrongRepairs.{tells_damage_where_bytes_are_missing, leaves_all_of_a_torn_volume, leaves_the_header_alone, drops_a_damaged_block, drops_a_cut_table}
use Rattle.claims.proofs.WrongTrees.{counts_depth_from_one, counts_places_in_the_folder, lists_each_link_once, tells_depth_before_room}

pub wrong_are_shut_out : WrongAreShutOut
wrong_are_shut_out =
    record {
      refuses_all_lem = refuses_all_lem;
      holes_only_lem = holes_only_lem;
      one_place_only_lem = one_place_only_lem;
      stores_nothing_lem = stores_nothing_lem;
      repeats_first_lem = repeats_first_lem;
      invents_blocks_lem = invents_blocks_lem;
      invents_listed_blocks_lem = invents_listed_blocks_lem;
      holes_where_refused_lem = holes_where_refused_lem;
      invents_blocks_before_faults_lem = invents_blocks_before_faults_lem;
      hands_out_no_links_lem = hands_out_no_links_lem;
      always_due_lem = always_due_lem;
      refuses_same_time_lem = refuses_same_time_lem;
      accepts_lower_time_lem = accepts_lower_time_lem;
      numbers_from_one_lem = numbers_from_one_lem;
      counts_no_table_lem = counts_no_table_lem;
      counts_no_append_lem = counts_no_append_lem;
      start_in_block = start_in_block;
      last_text_told = last_text_told;
      text_told_beside_any_number = text_told_beside_any_number;
      second_part_told = second_part_told;
      any_id_follows = any_id_follows;
      any_hash_follows = any_hash_follows;
      no_volume_follows = no_volume_follows;
      feeds_nothing_lem = feeds_nothing_lem;
      tells_damage_where_bytes_are_missing = tells_damage_where_bytes_are_missing;
      leaves_all_of_a_torn_volume = leaves_all_of_a_torn_volume;
      leaves_the_header_alone = leaves_the_header_alone;
      drops_a_damaged_block = drops_a_damaged_block;
      drops_a_cut_table = drops_a_cut_table;
      counts_depth_from_one = counts_depth_from_one;
      counts_places_in_the_folder = counts_places_in_the_folder;
      lists_each_link_once = lists_each_link_once;
      tells_depth_before_room = tells_depth_before_room;
    }
