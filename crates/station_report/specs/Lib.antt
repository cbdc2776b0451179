-- What the contracts of `station_report` cite.
pub mod Report
