mod TapedEntries
