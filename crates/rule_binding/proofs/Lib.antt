mod Bared
